use Rattle.laying.proofs.Pieces.{pieces-added}
use Rattle.laying.proofs.add.Goals as goal

pub add_name-requires : goal.add_name-requires
add_name-requires c = search pieces-added

pub returns-in-Name : goal.returns-in-Name
returns-in-Name c = search pieces-added

pub add_variable-requires : goal.add_variable-requires
add_variable-requires c = search pieces-added

pub returns-in-Variable : goal.returns-in-Variable
returns-in-Variable c = search pieces-added

pub returns-in-Closing : goal.returns-in-Closing
returns-in-Closing c = search pieces-added

pub returns-in_default : goal.returns-in_default
returns-in_default c = search pieces-added
