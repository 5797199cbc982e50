-- The walk's refusal is the first table's that has one.
use Rattle.std.proofs.Common.{rules}
use Rattle.walk.proofs.Walked.{walk-order}
use Rattle.walk.proofs.first_refusal.Goals as goal

pub returns-in_err-offset_refusal : goal.returns-in_err-offset_refusal
returns-in_err-offset_refusal c = search (rules, walk-order)

pub returns-in_err-alpha_refusal : goal.returns-in_err-alpha_refusal
returns-in_err-alpha_refusal c = search (rules, walk-order)

pub returns : goal.returns
returns c = search (rules, walk-order)
