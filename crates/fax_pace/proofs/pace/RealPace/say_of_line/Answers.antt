use Rattle.std.proofs.Common.{None, Some, sym, refl, ap, ◌∙◌}
use Rattle.fax_desk.specs.declared.next.Next.TheVariants as next
use Rattle.fax_runs.proofs.Passings.{none_given, said_given}
use Rattle.fax_pace.proofs.pace.RealPace.say_of_line.Goals as goal
use Rattle.fax_pace.proofs.pace.RealPace.say_of_line.Goals.{in-Replies, in-Reports, in-Undelivered, in-Discards, in-Retries, in-Status, in-Metrics, in-Events, in-Frames, in-Reloads}

pub returns-in-Orders : goal.returns-in-Orders
returns-in-Orders g c = said_given c.apart.result (next.Orders c.in-Orders.order) (Some c.ask.result) c.args.self.now _ c.in-Orders.ensures.waits (sym c.ask.ensures)

-- in each other case nothing waits at the desk
pub returns : goal.returns
returns g c = λ free. elim c.match-next.branch [
  | in-Replies w ↦ none_given None c.args.self.now _ refl (ap (λ it. it.desk.waits) w.self-inside-is ∙ w.in-Replies.ensures.waits ∙ sym free) free
  | in-Reports w ↦ none_given None c.args.self.now _ refl (ap (λ it. it.desk.waits) w.self-inside-is ∙ w.in-Reports.ensures.waits ∙ sym free) free
  | in-Undelivered w ↦ none_given None c.args.self.now _ refl (ap (λ it. it.desk.waits) w.self-inside-is ∙ w.in-Undelivered.ensures.waits ∙ sym free) free
  | in-Discards w ↦ none_given None c.args.self.now _ refl (ap (λ it. it.desk.waits) w.self-inside-is ∙ w.in-Discards.ensures.waits ∙ sym free) free
  | in-Retries w ↦ none_given None c.args.self.now _ refl (ap (λ it. it.desk.waits) w.self-inside-is ∙ w.in-Retries.ensures.waits ∙ sym free) free
  | in-Status w ↦ none_given None c.args.self.now _ refl (ap (λ it. it.desk.waits) w.self-inside-is ∙ w.in-Status.ensures.waits ∙ sym free) free
  | in-Metrics w ↦ none_given None c.args.self.now _ refl (ap (λ it. it.desk.waits) w.self-inside-is ∙ w.in-Metrics.ensures.waits ∙ sym free) free
  | in-Events w ↦ none_given None c.args.self.now _ refl (ap (λ it. it.desk.waits) w.self-inside-is ∙ w.in-Events.ensures.waits ∙ sym free) free
  | in-Frames w ↦ none_given None c.args.self.now _ refl (ap (λ it. it.desk.waits) w.self-inside-is ∙ w.in-Frames.ensures.waits ∙ sym free) free
  | in-Reloads w ↦ none_given None c.args.self.now _ refl (ap (λ it. it.desk.waits) w.self-inside-is ∙ w.in-Reloads.ensures.waits ∙ sym free) free
]
