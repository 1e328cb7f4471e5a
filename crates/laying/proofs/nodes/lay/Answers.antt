use Rattle.laying.proofs.Holding.{lay-longer}
use Rattle.laying.proofs.Holding.{laying}
use Rattle.laying.proofs.nodes.lay.Goals as goal

pub bump-requires : goal.bump-requires
bump-requires c = (search laying, search laying)

pub put_node-more-requires : goal.put_node-more-requires
put_node-more-requires c = (search laying, search laying)

pub note-requires : goal.note-requires
note-requires c = search laying

pub longer-requires : goal.longer-requires
longer-requires c = lay-longer _ _ _ _ _ _ _ c.requires _ _ _ _ _ c.bump.ensures c.put_node-more.ensures c.note.ensures

pub returns : goal.returns
returns c = search laying
