use Rattle.profile_looks.proofs.convicts.Goals as goal

pub returns-in-Flow : goal.returns-in-Flow
returns-in-Flow c = rw c.in-Flow.is c.flow_convicts.ensures

pub returns-in-Entry : goal.returns-in-Entry
returns-in-Entry c = rw c.in-Entry.is (simp (c.is_draw.ensures, c.entry.ensures))

pub returns-in-Catch : goal.returns-in-Catch
returns-in-Catch c = rw c.in-Catch.is (simp (c.is_draw-in-Catch.ensures, c.catch_to.ensures))

pub returns-in-Grant : goal.returns-in-Grant
returns-in-Grant c = rw c.in-Grant.is c.grant_convicts.ensures

pub returns-in-Call : goal.returns-in-Call
returns-in-Call c = rw c.in-Call.is (simp c.call_method.ensures)
