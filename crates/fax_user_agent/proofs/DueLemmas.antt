-- The earlier of two moments comes by what either comes by.
use Rattle.std.proofs.Common.{◌≡◌, ◌+◌, ◌<◌, ℕ, List, Option, None, Some, length, take, get_or, sym, subst, arith}
use Rattle.std.specs.List.{All}
use Rattle.std.proofs.lemmas.List.Elements.{All-more, All-weaker}
use Rattle.fax_switch.specs.declared.call.Entry.{Entry}
use Rattle.fax_user_agent.specs.Dues.{ComesBy, ComesByAll, due_of, earlier_of}

pub still_comes : (due other moment : Option ℕ) → ComesBy due moment → ComesBy (earlier_of due other) moment
still_comes due other None h = tt
still_comes None other (Some until) h = absurd h
still_comes (Some one) None (Some until) h = h
still_comes (Some one) (Some other) (Some until) h = omega (arith, h)

pub still_comes_with : (due other moment : Option ℕ) → ComesBy other moment → ComesBy (earlier_of due other) moment
still_comes_with due other None h = tt
still_comes_with None other (Some until) h = h
still_comes_with (Some one) None (Some until) h = absurd h
still_comes_with (Some one) (Some other) (Some until) h = omega (arith, h)

pub comes_itself : (due : Option ℕ) → ComesBy due due
comes_itself None = tt
comes_itself (Some one) = omega arith

-- with one call more
pub comes_by_more :
    (entries : List Entry) (i : ℕ) (other : Entry) (due stage_due : Option ℕ) → i < length entries → ComesByAll due (take i entries)
    → stage_due ≡ due_of (get_or entries i other).call.stage → ComesByAll (earlier_of due stage_due) (take (i + 1) entries)
comes_by_more entries i other due stage_due within before is =
    let sooner = earlier_of due stage_due in
    let still = λ (entry : Entry). still_comes due stage_due (due_of entry.call.stage) in
    let all : ComesByAll sooner (take i entries) = All-weaker (λ (entry : Entry). ComesBy due (due_of entry.call.stage)) (λ (entry : Entry). ComesBy sooner (due_of entry.call.stage)) still (take i entries) before in
    All-more (λ (entry : Entry). ComesBy sooner (due_of entry.call.stage)) entries i other within all
    (subst (λ (moment : Option ℕ). ComesBy sooner moment) is (still_comes_with due stage_due stage_due (comes_itself stage_due)))
