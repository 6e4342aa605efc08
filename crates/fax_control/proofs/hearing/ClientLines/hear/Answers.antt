use Rattle.std.proofs.Common.{◌≡◌, ◌≢◌, ℕ, ◌+◌, ◌<◌, List, ◌∷◌, ◌++◌, length, get_or, take, drop, sym, ◌∙◌, ap, arith, take-append-drop, length-take}
use Rattle.std.proofs.lemmas.List.{take_rest, drop_more, get_or-take}
use Rattle.std.proofs.lemmas.Grind.{common_steps}
use Rattle.fax_control.specs.ClientStreams.{HasNoLineFeed}
use Rattle.fax_control.proofs.hearing.ClientLines.hear.Goals as goal

-- octets up to a line feed, and what follows it
cut_at : (octets : List ℕ) (end : ℕ) → end < length octets → get_or octets end 0 ≡ 10 → octets ≡ take end octets ++ 10 ∷ drop (end + 1) octets
cut_at octets end within found =
    sym (take-append-drop end octets) ∙ ap (λ rest. take end octets ++ rest) (drop_more octets end 0 within ∙ ap (λ x. x ∷ drop (end + 1) octets) found)

-- no line feed stands in the front of octets that have none there
front : (octets : List ℕ) (end : ℕ) → ((k : ℕ) → k < end → get_or octets k 0 ≢ 10) → HasNoLineFeed (take end octets)
front octets end before k within =
    let below : k < end = omega (arith, length-take end octets) in
    λ is. before k below (sym (get_or-take end octets k 0 below) ∙ is)

pub returns-in-Some-clause-line : goal.returns-in-Some-clause-line
returns-in-Some-clause-line c =
    let octets = c.args.octets.now in
    let end = c.in-Some.end in (
      take end octets,
      record {
        cut = cut_at octets end c.in-Some.ensures.within c.in-Some.ensures.found ∙ ap (λ rest. take end octets ++ 10 ∷ rest) (sym (take_rest octets (end + 1)));
        in_one_line = front octets end c.in-Some.ensures.before;
      },
      λ part was. let grown = c.grown.ensures part (cc) in first_of (cc, grind (arith, common_steps, grown, c.line_heard.ensures)),
    )
