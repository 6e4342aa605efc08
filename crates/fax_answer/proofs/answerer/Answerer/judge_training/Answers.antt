use Rattle.std.proofs.Common.{◌≡◌, ◌≤◌, ℕ, ◌/◌, ◌&&◌, not, nat_le, Bool, true, false, sym, ◌∙◌, ap, subst, rules}
use Rattle.fax_frames.specs.Rates.{bits_a_second}
use Rattle.fax_answer.specs.History.{octets_since}
use Rattle.fax_answer.specs.Table.{longest_zeros}
use Rattle.fax_answer.specs.Replies.{is_waiting}
use Rattle.fax_answer.specs.Reached.{Rep, Stands}
use Rattle.fax_answer.proofs.Held.{longest_is, enough}
use Rattle.fax_answer.proofs.HearingLemmas.{trained, is_good}
use Rattle.fax_answer.proofs.answerer.Answerer.judge_training.Goals as goal

good : (b whole missing m : Bool) (longest wanted l w : ℕ) → b ≡ (whole && (not missing && nat_le wanted longest)) → missing ≡ m → nat_le wanted longest ≡ nat_le wanted l → wanted ≡ w → b ≡ (whole && (not m && nat_le w l))
good b whole missing m longest wanted l w h e f k = h ∙ ap (λ (x : Bool). whole && (not x && nat_le wanted longest)) e ∙ ap (λ (x : Bool). whole && (not m && x)) f ∙ ap (λ (x : ℕ). whole && (not m && nat_le x l)) k

pub returns-then-is_check : goal.returns-then-is_check
returns-then-is_check g c core s =
    let is : c.is_check.result ≡ true = search rules in
    let k = subst (λ (x : Rep). Stands core x) (sym c.self.view_is) s in
    let e = sym k.follows.state ∙ c.in-Train.is in
    let z : ℕ = longest_zeros (octets_since core.history) in
    let few : c.bits-wanted.result / 8 ≤ 65535 = search rules in
    let longest : nat_le (c.bits-wanted.result / 8) c.longest_run.result ≡ nat_le (c.bits-wanted.result / 8) z =
    ap (nat_le (c.bits-wanted.result / 8)) (c.longest_run.ensures ∙ k.holds.longest ∙ longest_is (octets_since core.history)) ∙ enough (c.bits-wanted.result / 8) z few in
    let wanted : c.bits-wanted.result / 8 ≡ bits_a_second c.in-Train.dcs.rate / 8 = ap (λ (n : ℕ). n / 8) c.bits-wanted.ensures in
    let h : c.is_check.result ≡ is_good c.args.whole c.in-Train.dcs core.history =
    good c.is_check.result c.args.whole _ _ c.longest_run.result (c.bits-wanted.result / 8) z _ c.is_check.ensures (c.is_missing-is_missing.ensures core.history k.follows.counts) longest wanted in
    trained core.state (is_waiting core.waiting) core.history c.args.whole c.in-Train.dcs true e (sym is ∙ h)

pub returns-else-is_check : goal.returns-else-is_check
returns-else-is_check g c core s =
    let is : c.is_check.result ≡ false = search rules in
    let k = subst (λ (x : Rep). Stands core x) (sym c.self.view_is) s in
    let e = sym k.follows.state ∙ c.in-Train.is in
    let z : ℕ = longest_zeros (octets_since core.history) in
    let few : c.bits-wanted.result / 8 ≤ 65535 = search rules in
    let longest : nat_le (c.bits-wanted.result / 8) c.longest_run.result ≡ nat_le (c.bits-wanted.result / 8) z =
    ap (nat_le (c.bits-wanted.result / 8)) (c.longest_run.ensures ∙ k.holds.longest ∙ longest_is (octets_since core.history)) ∙ enough (c.bits-wanted.result / 8) z few in
    let wanted : c.bits-wanted.result / 8 ≡ bits_a_second c.in-Train.dcs.rate / 8 = ap (λ (n : ℕ). n / 8) c.bits-wanted.ensures in
    let h : c.is_check.result ≡ is_good c.args.whole c.in-Train.dcs core.history =
    good c.is_check.result c.args.whole _ _ c.longest_run.result (c.bits-wanted.result / 8) z _ c.is_check.ensures (c.is_missing-is_missing.ensures core.history k.follows.counts) longest wanted in
    trained core.state (is_waiting core.waiting) core.history c.args.whole c.in-Train.dcs false e (sym is ∙ h)
