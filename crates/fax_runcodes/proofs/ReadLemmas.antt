-- What a look-up in the next 56 bits says of all that is left.
use Rattle.std.proofs.Common.{◌≡◌, ◌≢◌, ℕ, ◌+◌, ◌-◌, ◌<◌, ◌≤◌, ◌↔◌, Bool, true, false, List, [], ◌∷◌, ◌++◌, Contains, length, take, drop, replicate, min, refl, sym, ◌∙◌, ap, arith, inl, inr, append_assoc, append-nil, take-append-drop, take_at, take_all, length-append, length-take-le}
use Rattle.std.proofs.lemmas.List.{take-append-le, take-replicate, replicate-append-replicate}
use Rattle.fax_runcodes.specs.declared.Colour.{Colour}
use Rattle.fax_runcodes.specs.declared.tables.CodeWord.{CodeWord}
use Rattle.fax_runcodes.specs.CodeTables.{Word, words, code}
use Rattle.fax_runcodes.specs.Entries.{IsEntryAt}
use Rattle.fax_runcodes.specs.Lookups.{BeginsWithNone, IsFoundAt, no_run}
use Rattle.fax_runcodes.specs.RunFaults.{BeginsWith, EndsInside}
use Rattle.fax_runcodes.proofs.WordLaws.{word_size, eight_zeros, word_of_seven_zeros}

-- a front of a list goes on to a longer front of it
pub front_of : {A : Type 0} (u v x y : List A) → u ++ x ≡ v ++ y → length u ≤ length v → v ≡ u ++ drop (length u) v
front_of u v x y e le =
    let cut : take (length u) v ≡ u = sym (take-append-le (length u) v y le) ∙ ap (take (length u)) (sym e) ∙ take_at u x (length u) refl in
    sym (take-append-drop (length u) v) ∙ ap (λ l. l ++ drop (length u) v) cut

-- what a look-up found, by the run that it says
pub found_of : (colour : Colour) (bits : List Bool) (found : CodeWord) → IsEntryAt colour bits found → found.run ≢ no_run → IsFoundAt colour bits found
found_of colour bits found (inl none) h = absurd (h none.0)
found_of colour bits found (inr some) h = some

-- no word stands for the run that says that there is none
found_run : (colour : Colour) (bits : List Bool) (found : CodeWord) → IsFoundAt colour bits found → found.run ≢ no_run
found_run colour bits found some e =
    let size : some.word.run ≤ 2560 = (word_size colour some.word some.begins.0).run in
    let is : some.word.run ≡ found.run = some.run_is in
    omega arith

pub none_of : (colour : Colour) (bits : List Bool) (found : CodeWord) → IsEntryAt colour bits found → found.run ≡ no_run → (rest : List Bool) × (bits ≡ replicate 8 false ++ rest)
none_of colour bits found (inl none) e = (none.1, none.2)
none_of colour bits found (inr some) e = absurd (found_run colour bits found some e)

-- where there is none, no word begins the bits
pub none_begins : (colour : Colour) (bits : List Bool) (found : CodeWord) → IsEntryAt colour bits found → (found.run ≡ no_run) ↔ BeginsWithNone colour bits
none_begins colour bits found (inl none) = (
  λ e w (is_word, rest, begun). eight_zeros colour w rest none.1 is_word (sym begun ∙ none.2),
  λ h. none.0,
)
none_begins colour bits found (inr some) = (
  λ e. absurd (found_run colour bits found some e),
  λ h. absurd (h some.word some.begins),
)

module _ (colour : Colour) (left : List Bool) (known : ℕ) (is_known : known ≡ min 56 (length left)) where
  known_le : known ≤ length left
  known_le = omega arith

  -- fewer than 13 bits are known only where they are all
  known_all : known < 56 → take known left ≡ left
  known_all lt = take_all known left (omega arith)

  -- fewer than eight zeros are left
  pub EndsInside-zeros : known < 8 → (rest : List Bool) → take known left ++ replicate (56 - known) false ≡ replicate 8 false ++ rest → EndsInside colour left
  EndsInside-zeros lt rest e =
      let all : take known left ≡ left = known_all (omega arith) in
      let size : length (take known left) ≡ known = length-take-le known left known_le in
      let zeros : take known left ≡ replicate known false =
      sym (take_at (take known left) (replicate (56 - known) false) known size) ∙ ap (take known) e
      ∙ take-append-le known (replicate 8 false) rest (omega arith) ∙ take-replicate known 8 false (omega arith) in
      let sum : known + (7 - known) ≡ 7 = omega arith in
      let seven : replicate 7 false ≡ replicate known false ++ replicate (7 - known) false =
      sym (replicate-append-replicate known (7 - known) false ∙ ap (λ n. replicate n false) sum) in
      let tail : List Bool = true ∷ false ∷ false ∷ false ∷ [] in (
        code 1792 "00000001000",
        word_of_seven_zeros colour,
        replicate (7 - known) false ++ tail,
        λ h. (let none : length (replicate (7 - known) false ++ tail) ≡ 0 = ap length h in
            let four : length (replicate (7 - known) false ++ tail) ≡ length (replicate (7 - known) false) + 4 = length-append (replicate (7 - known) false) tail in
            omega arith),
        ap (λ z. z ++ tail) seven ∙ append_assoc (replicate known false) (replicate (7 - known) false) tail ∙ ap (λ z. z ++ (replicate (7 - known) false ++ tail)) (sym zeros ∙ all),
      )

  -- eight zeros come
  zeros_begin : 8 ≤ known → (rest : List Bool) → take known left ++ replicate (56 - known) false ≡ replicate 8 false ++ rest → (more : List Bool) × (left ≡ replicate 8 false ++ more)
  zeros_begin ge rest e =
      let size : length (take known left) ≡ known = length-take-le known left known_le in
      let front : take known left ≡ replicate 8 false ++ drop 8 (take known left) = front_of (replicate 8 false) (take known left) rest (replicate (56 - known) false) (sym e) (omega arith) in (
        drop 8 (take known left) ++ drop known left,
        sym (take-append-drop known left) ∙ ap (λ l. l ++ drop known left) front,
      )

  pub not_begun : 8 ≤ known → (rest : List Bool) → take known left ++ replicate (56 - known) false ≡ replicate 8 false ++ rest → (w : Word) → BeginsWith colour left w → ⊥
  not_begun ge rest e w (is_word, more, begun) =
      let z : (more : List Bool) × (left ≡ replicate 8 false ++ more) = zeros_begin ge rest e in
      eight_zeros colour w more z.0 is_word (sym begun ∙ z.1)

  pub not_inside : 8 ≤ known → (rest : List Bool) → take known left ++ replicate (56 - known) false ≡ replicate 8 false ++ rest → EndsInside colour left → ⊥
  not_inside ge rest e (w, is_word, more, some, inside) =
      let z : (more : List Bool) × (left ≡ replicate 8 false ++ more) = zeros_begin ge rest e in
      eight_zeros colour w [] (z.0 ++ more) is_word (append-nil w.word ∙ inside ∙ ap (λ l. l ++ more) z.1 ∙ append_assoc (replicate 8 false) z.0 more)

  -- a longer word than what is left
  pub EndsInside-word : (w : Word) → Contains (words colour) w → known < length w.word → (rest : List Bool) → take known left ++ replicate (56 - known) false ≡ w.word ++ rest → EndsInside colour left
  EndsInside-word w is_word lt rest e =
      let few : length w.word ≤ 13 = (word_size colour w is_word).few in
      let all : take known left ≡ left = known_all (omega arith) in
      let size : length (take known left) ≡ known = length-take-le known left known_le in
      let front : w.word ≡ take known left ++ drop (length (take known left)) w.word = front_of (take known left) w.word (replicate (56 - known) false) rest e (omega arith) in
      let sizes : length w.word ≡ length (take known left) + length (drop (length (take known left)) w.word) = ap length front ∙ length-append (take known left) (drop (length (take known left)) w.word) in (
        w,
        is_word,
        drop (length (take known left)) w.word,
        λ h. (let none : length (drop (length (take known left)) w.word) ≡ 0 = ap length h in omega arith),
        front ∙ ap (λ l. l ++ drop (length (take known left)) w.word) all,
      )

  -- a word that begins what is left
  pub word_front : (w : Word) → length w.word ≤ known → (rest : List Bool) → take known left ++ replicate (56 - known) false ≡ w.word ++ rest → take (length w.word) left ≡ w.word
  word_front w le rest e =
      let size : length (take known left) ≡ known = length-take-le known left known_le in
      let front : take known left ≡ w.word ++ drop (length w.word) (take known left) = front_of w.word (take known left) rest (replicate (56 - known) false) (sym e) (omega arith) in
      let whole : left ≡ w.word ++ (drop (length w.word) (take known left) ++ drop known left) =
      sym (take-append-drop known left) ∙ ap (λ l. l ++ drop known left) front ∙ append_assoc w.word (drop (length w.word) (take known left)) (drop known left) in
      ap (take (length w.word)) whole ∙ take_at w.word (drop (length w.word) (take known left) ++ drop known left) (length w.word) refl
