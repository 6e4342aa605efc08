use Rattle.std.proofs.Common.{ℕ, List, ◌++◌, Err, codes, ap}
use Rattle.fax_trace.specs.declared.script_fault.ScriptFault.TheVariants.{NoMemory}
use Rattle.fax_explain.proofs.ExplainLemmas.{explains_told, told_to_memory}
use Rattle.fax_explain.proofs.answer.answer_of.Goals as goal

-- after a text, the line for want of memory
abbrev with_memory : List ℕ → List ℕ
with_memory text = text ++ codes "fault memory\n"

pub returns-in-Err : goal.returns-in-Err
returns-in-Err c = λ set script h.
    explains_told set script c.args.text.items _ (Err NoMemory) (told_to_memory set script c.args.text.items c.args.outcome h) (ap with_memory c.in-Err.ensures.err)
