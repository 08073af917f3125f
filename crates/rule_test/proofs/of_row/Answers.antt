use Rattle.rule_test.proofs.of_row.Goals as goal

pub returns-in-Trailer : goal.returns-in-Trailer
returns-in-Trailer c = rw c.in-Trailer.is

pub returns-in-Methods : goal.returns-in-Methods
returns-in-Methods c = rw c.in-Methods.is c.at_entry.ensures

pub returns-in-Nodes : goal.returns-in-Nodes
returns-in-Nodes c = rw c.in-Nodes.is c.at_node.ensures

pub returns-in-Flow : goal.returns-in-Flow
returns-in-Flow c = rw c.in-Flow.is c.along_flow.ensures

pub returns-in-Calls : goal.returns-in-Calls
returns-in-Calls c = rw c.in-Calls.is c.of_call.ensures

pub returns-in-Parents : goal.returns-in-Parents
returns-in-Parents c = rw c.in-Parents.is

pub returns-in-Catches : goal.returns-in-Catches
returns-in-Catches c = rw c.in-Catches.is

pub returns-in-Opening : goal.returns-in-Opening
returns-in-Opening c = rw c.in-Opening.is
