-- The octets of a buffer that were not heard yet.
use Rattle.std.proofs.Common.{◌≡◌, ℕ, ◌+◌, ◌-◌, ◌≤◌, Bool, true, nat_eq, Option, None, Some, List, [], ◌∷◌, ◌++◌, length, take, drop, refl, sym, ◌∙◌, ap, arith, length-drop, length-take, length-append, append_assoc}
use Rattle.std.proofs.lemmas.Bool.{eqb-true}
use Rattle.std.proofs.lemmas.List.{drop-drop, drop_at, drop_all}
use Rattle.std.specs.Option.{IfSome}
use Rattle.fax_control.specs.ClientStreams.{EndsALine, fitting, octets_of_heard}
use Rattle.fax_control.specs.declared.hearing.HeardLine.{HeardLine}
use Rattle.fax_clients.specs.Clients.{IsHeard}

-- after the front of what was not heard yet is the rest
pub rest_left :
    (octets : List ℕ) (start stop : ℕ) (front rest : List ℕ) → start ≤ stop → stop ≤ length octets
    → drop start (take stop octets) ≡ front ++ rest → drop (stop - length rest) (take stop octets) ≡ rest
rest_left octets start stop front rest ordered within is =
    let whole : length (take stop octets) ≡ stop = simp length-take (omega arith) in
    let parts : length (take stop octets) - start ≡ length front + length rest = sym (length-drop start (take stop octets)) ∙ ap length is ∙ length-append front rest in
    let place : stop - length rest ≡ start + length front = omega arith in
    ap (λ n. drop n (take stop octets)) place
    ∙ sym (drop-drop (length front) start (take stop octets))
    ∙ ap (λ l. drop (length front) l) is
    ∙ drop_at front rest (length front) refl

-- at the end nothing is left
pub none_left : (octets rest : List ℕ) (stop : ℕ) → stop ≤ length octets → rest ≡ [] → drop (stop - length rest) (take stop octets) ≡ []
none_left octets rest stop within empty =
    let none : length rest ≡ 0 = ap length empty in
    drop_all (stop - length rest) (take stop octets) (rw length-take (omega arith))

-- nothing is left where the beginning is the end
pub heard_all : (octets : List ℕ) (start stop : ℕ) → nat_eq start stop ≡ true → drop start (take stop octets) ≡ []
heard_all octets start stop is =
    let same : start ≡ stop = eqb-true start stop is in drop_all start (take stop octets) (rw length-take (omega arith))

-- a line that ends in what was not heard yet
pub heard_of :
    (result : Option HeardLine) (octets : List ℕ) (start stop : ℕ) (lines new_lines : Option (List ℕ)) (rest : List ℕ) (more : Bool) → start ≤ stop → stop ≤ length octets
    → IfSome result (λ heard. (end : List ℕ) × EndsALine (drop start (take stop octets)) end rest
    × ((part : List ℕ) → lines ≡ fitting part → octets_of_heard heard ≡ fitting (part ++ end)))
    → IfSome result (λ heard. new_lines ≡ fitting [])
    → IfSome result (λ heard. IsHeard heard (record { more = more; unheard = drop start (take stop octets); begun = lines })
    (record { more = more; unheard = drop (stop - length rest) (take stop octets); begun = new_lines }))
heard_of None octets start stop lines new_lines rest more ordered within line begins = tt
heard_of (Some heard) octets start stop lines new_lines rest more ordered within (end, ends, fits) begins =
    let left : drop (stop - length rest) (take stop octets) ≡ rest =
    rest_left octets start stop (end ++ 10 ∷ []) rest ordered within (ends.cut ∙ sym (append_assoc end (10 ∷ []) rest)) in
    record {
      more = refl;
      line = (end, record { cut = ends.cut ∙ ap (λ l. end ++ 10 ∷ l) (sym left); in_one_line = ends.in_one_line }, fits);
      begun = begins;
    }
