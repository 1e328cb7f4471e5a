use Rattle.reader.proofs.Stepping.{other-stays, argument-nested, argument-sofar, closing-nested, closing-sofar}
use Rattle.reader.proofs.Stopping.{finish-room, finish-sofar}
use Rattle.reader.proofs.add.Goals as goal

pub argument-requires : goal.argument-requires
argument-requires c = (argument-nested c.requires.step c.in-Variable.is c.requires.kept, c.requires.step.few)

pub close-requires : goal.close-requires
close-requires c = closing-nested c.requires.step c.in-Closing.is c.requires.kept

pub finish-requires : goal.finish-requires
finish-requires c = let z = finish-room c.requires.step c.in-Stop.is c.requires.kept in (z.two, z.within, z.some, z.few)

pub ended-requires : goal.ended-requires
ended-requires c = let z = finish-room c.requires.step c.in-Stop.is c.requires.kept in (z.low, z.short)

pub returns-in-Variable : goal.returns-in-Variable
returns-in-Variable c = record { sofar = λ text starts lens heads nexts at s s' k x. argument-sofar x c.in-Variable.is c.argument.ensures k }

pub returns-in-Closing : goal.returns-in-Closing
returns-in-Closing c = record { sofar = λ text starts lens heads nexts at s s' k x. closing-sofar x c.in-Closing.is c.close.ensures k }

pub returns-in-Stop : goal.returns-in-Stop
returns-in-Stop c = record { sofar = λ text starts lens heads nexts at s s' k x. finish-sofar x c.in-Stop.is c.finish.ensures c.ended.ensures k }

pub returns-in_default : goal.returns-in_default
returns-in_default c = record { sofar = λ text starts lens heads nexts at s s' k x. other-stays _ c.in_default.not-Variable c.in_default.not-Closing c.in_default.not-Stop k x }
