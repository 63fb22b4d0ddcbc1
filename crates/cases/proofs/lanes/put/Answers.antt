use Rattle.std.proofs.Common.{rules}
use Rattle.std.proofs.lemmas.Result.{IfOk-weaker}
use Rattle.cases.proofs.lanes.put.Goals as goal

pub returns-in-Ok : goal.returns-in-Ok
returns-in-Ok g c = IfOk-weaker c.from_str.result _ _ (λ word e. (c.put.result, c.put.ensures.list, c.put.ensures.exact, search rules)) c.from_str.ensures.ok

pub returns-in-Err : goal.returns-in-Err
returns-in-Err g c = IfOk-weaker c.format.result _ _ (λ word e. (c.put.result, c.put.ensures.list, c.put.ensures.exact, search rules)) c.format.ensures.ok
