use Rattle.std.proofs.Common.{◌≡◌, ℕ, List, [], ◌∷◌, ◌++◌, length, refl, sym, ◌∙◌, ap, ap₂, arith, append_assoc, append-nil, take-append-drop}
use Rattle.hex.specs.Hex.{encode_lower, encode_with}
use Rattle.fax_command.proofs.LineTexts.{encode_lower-append}
use Rattle.fax_command.proofs.PutLemmas.{Puts-then, Puts-last}
use Rattle.fax_command.proofs.putting.put_hex_line.Goals as goal

pub loop-rest-preserved : goal.loop-rest-preserved
loop-rest-preserved g c =
    let so_far = c.loop-rest.invariant in
    let rest = c.loop-rest.rest.now in
    let front = c.split_at.result.0.now in
    let after = c.split_at.result.1.now in
    let parts : rest ≡ front ++ after =
    sym (take-append-drop c.min.result rest) ∙ ap₂ (λ (a b : List ℕ). a ++ b) (sym c.split_at.ensures.front) (sym c.split_at.ensures.back) in
    record {
      front = so_far.front ++ encode_lower front;
      all = so_far.all ∙ ap (λ (octets : List ℕ). so_far.front ++ encode_lower octets) parts
          ∙ ap (λ (text : List ℕ). so_far.front ++ text) (encode_lower-append front after)
          ∙ sym (append_assoc so_far.front (encode_lower front) (encode_lower after));
      put = Puts-then _ _ _ _ _ _ _ _ so_far.put c.in_ok-put_hex.ensures.text;
      failed = c.in_ok-put_hex.ensures.failed ∙ so_far.failed;
    }

none_left : (octets : List ℕ) → length octets ≡ 0 → octets ≡ []
none_left [] e = refl
none_left (octet ∷ octets) e = absurd (omega arith)

-- the hex text of all octets is the front, where none are left
all_put : (octets rest front : List ℕ) → rest ≡ [] → encode_lower octets ≡ front ++ encode_lower rest → encode_lower octets ++ 10 ∷ [] ≡ front ++ 10 ∷ []
unfolding encode_with
all_put octets rest front none all =
    ap (λ (text : List ℕ). text ++ 10 ∷ []) (all ∙ ap (λ (left : List ℕ). front ++ encode_lower left) none ∙ append-nil front)

pub returns-clause-text : goal.returns-clause-text
returns-clause-text g c =
    let so_far = c.loop-rest.invariant in
    let rest = c.loop-rest.rest.now in
    let none : rest ≡ [] = none_left rest (grind (arith, c.loop-rest-test.false, c.is_empty.ensures)) in
    Puts-last c.put.result _ _ _ _ _ _ so_far.front (10 ∷ []) _ so_far.put (all_put c.args.octets.now rest so_far.front none so_far.all) c.put.ensures.text
