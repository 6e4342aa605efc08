-- What a crash leaves while the gate after the records is shut.
use Rattle.std.proofs.Common.{◌≡◌, inl, inr, ℕ, ◌≤◌, Bool, true, false, IsTrue, List, [], ◌∷◌, ◌++◌, length, take, drop, refl, sym, ◌∙◌, ap, subst, arith, length-append, length-drop, take-append-drop}
use Rattle.std.proofs.lemmas.List.{take_at, length-take-le}
use Rattle.std.proofs.lemmas.Bool.{cases_lt}
use Rattle.sqlite_disk.specs.Disk.{Torn, Holds, Only, Follows}
use Rattle.fax_spool.specs.Records.{AreRead, BeginsWith, Ends, Stands, is_open, shut}
use Rattle.fax_spool.specs.Settled.{IsSettled}
use Rattle.fax_spool.specs.Found.{IsFoundIn, IsFoundOf, items_of}
use Rattle.fax_spool.specs.declared.file.FileContents.{FileContents}
use Rattle.fax_spool.proofs.Files.{torn_front, held}
use Rattle.fax_spool.proofs.Headers.{begins_regated, ends_short, open_front, stands_shut, unique}
use Rattle.fax_spool.proofs.Steps.{gate_left, turned}

not_false : (b : Bool) → (b ≡ false → ⊥) → b ≡ true
not_false true nay = refl
not_false false nay = absurd (nay refl)

-- a shut gate stands there
abbrev pub HasShut : List ℕ → Type 0
HasShut end = (3 ≤ length end) × (is_open end ≡ false)

gate_of_open : (end : List ℕ) → 3 ≤ length end → is_open (take 3 end) ≡ is_open end
gate_of_open end long = sym (open_front (take 3 end) (drop 3 end) (omega (arith, length-take-le 3 end long))) ∙ ap is_open (take-append-drop 3 end)

module _ (rs : List (List ℕ)) (front end file : List ℕ) (is : file ≡ front ++ end) (read : AreRead front rs) where
  within : length front ≤ length file
  within = omega (arith, ap length is, length-append front end)

  parts : (c : List ℕ) → Torn (length front) 3 file c → c ≡ front ++ drop (length front) c
  parts c torn =
      sym (take-append-drop (length front) c)
      ∙ ap (λ (l : List ℕ). l ++ drop (length front) c) (torn_front _ 3 file c torn within ∙ ap (λ (l : List ℕ). take (length front) l) is ∙ take_at front end (length front) refl)

  opened_parts : 3 ≤ length end → file ≡ front ++ (take 3 end ++ drop 3 end)
  opened_parts long = is ∙ ap (λ (l : List ℕ). front ++ l) (sym (take-append-drop 3 end))

  now : 3 ≤ length end → (c : List ℕ) → Torn (length front) 3 file c → c ≡ front ++ (take 3 (drop (length front) c) ++ drop 3 end)
  now long c torn = turned front (take 3 end) (drop 3 end) file (length-take-le 3 end long) (opened_parts long) c torn

  threes : 3 ≤ length end → (c : List ℕ) → Torn (length front) 3 file c → length (take 3 (drop (length front) c)) ≡ 3
  threes long c torn = gate_left front (take 3 end) (drop 3 end) file (length-take-le 3 end long) (opened_parts long) c torn

  -- the gate is anything, which was read as open
  regated : (b : Bool) → Ends end → 3 ≤ length end → is_open end ≡ true → (c : List ℕ) → Torn (length front) 3 file c → is_open (take 3 (drop (length front) c)) ≡ b → Stands c rs
  regated false ends long opened c torn closed = stands_shut front (take 3 (drop (length front) c)) (drop 3 end) c rs read (threes long c torn) closed (now long c torn)
  regated true ends long opened c torn gate = record {
    front = front;
    end = take 3 (drop (length front) c) ++ drop 3 end;
    split = now long c torn;
    read = read;
    no_more = λ r rest begins. ends r rest
        (subst (λ (l : List ℕ). BeginsWith l r rest) (take-append-drop 3 end)
        (begins_regated (take 3 (drop (length front) c)) (take 3 end) (drop 3 end) r rest (threes long c torn) (length-take-le 3 end long) (gate_of_open end long ∙ opened) begins));
  }

  -- a gate that is torn while it is shut
  pub shut_left : Ends end → (HasShut end → ⊥) → (c : List ℕ) → Torn (length front) 3 file c → Stands c rs
  shut_left ends open_gate c torn = elim (cases_lt (length end) 3) [
    | inl short ↦ record {
      front = front;
      end = drop (length front) c;
      split = parts c torn;
      read = read;
      no_more = ends_short (drop (length front) c) (omega (arith, short, torn.no_longer, ap length is, length-append front end, length-drop (length front) c));
    }
    | inr long ↦
        let le : 3 ≤ length end = omega (arith, long) in
        regated (is_open (take 3 (drop (length front) c))) ends le (not_false (is_open end) (λ closed. open_gate (le, closed))) c torn refl
  ]

  -- and then it is shut
  pub shut_is : (c : List ℕ) → Torn (length front) 3 file c → Holds c (length front) (0 ∷ 0 ∷ 0 ∷ []) → c ≡ front ++ (shut ++ drop 3 (drop (length front) c))
  shut_is c torn holds =
      parts c torn
      ∙ ap (λ (l : List ℕ). front ++ l)
      (sym (take-append-drop 3 (drop (length front) c)) ∙ ap (λ (l : List ℕ). l ++ drop 3 (drop (length front) c)) (held c (length front) (0 ∷ 0 ∷ 0 ∷ []) holds))

module _ (octets : List ℕ) (f : FileContents) (found : IsFoundIn octets f) where
  abbrev split : octets ≡ take f.end octets ++ drop f.end octets
  split = sym (take-append-drop f.end octets)

  front_length : length (take f.end octets) ≡ f.end
  front_length = length-take-le f.end octets found.place

  abbrev pub file_stands : (file : List ℕ) → octets ≡ file → Stands file (items_of f)
  file_stands file same = record { front = take f.end octets; end = drop f.end octets; split = sym same ∙ split; read = found.read; no_more = found.no_more }

  pub file_found : (file : List ℕ) → octets ≡ file → IsFoundOf file f
  file_found file same = record { stands = file_stands file same; passed_over = found.passed_over; destroyed = found.destroyed }

  -- whenever the machine stops while the gate is shut
  pub left_by_shut : (file : List ℕ) → octets ≡ file → (HasShut (drop f.end octets) → ⊥) → (old new : List ℕ → Type 0) → Only file old → Follows (Torn f.end 3) old new
      → (rs : List (List ℕ)) → Stands file rs → (c : List ℕ) → new c → Stands c rs
  left_by_shut file same open_gate old new only follows rs stands c left =
      let from = follows c left in
      let torn : Torn f.end 3 file c = subst (λ (d : List ℕ). Torn f.end 3 d c) (only from.0 from.1) from.2 in
      let here : Torn (length (take f.end octets)) 3 file c = subst (λ (p : ℕ). Torn p 3 file c) (sym front_length) torn in
      subst (λ (l : List (List ℕ)). Stands c l) (unique file (items_of f) rs (file_stands file same) stands)
      (shut_left (items_of f) (take f.end octets) (drop f.end octets) file (sym same ∙ split) found.read found.no_more open_gate c here)

  module _ {D : Type 0} (seen : D → List ℕ) (may_leave : D → List ℕ → Type 0) (is_usable : D → Bool) where
    -- the gate was shut
    pub settled_found : (disk : D) → octets ≡ seen disk → HasShut (drop f.end octets) → Only (seen disk) (may_leave disk) → IsTrue (is_usable disk)
        → IsSettled seen may_leave is_usable disk f.end (items_of f)
    settled_found disk same closed only usable = record {
      front = take f.end octets;
      gate = take 3 (drop f.end octets);
      after = drop 3 (drop f.end octets);
      file = sym same ∙ split ∙ ap (λ (l : List ℕ). take f.end octets ++ l) (sym (take-append-drop 3 (drop f.end octets)));
      read = found.read;
      place = sym front_length;
      three = length-take-le 3 (drop f.end octets) closed.0;
      closed = gate_of_open (drop f.end octets) closed.0 ∙ closed.1;
      durable = only;
      usable = usable;
    }

    -- the gate is shut now
    pub settled_shut : (file : List ℕ) (disk : D) → octets ≡ file → Torn f.end 3 file (seen disk) → Holds (seen disk) f.end (0 ∷ 0 ∷ 0 ∷ []) → Only (seen disk) (may_leave disk) → IsTrue (is_usable disk)
        → IsSettled seen may_leave is_usable disk f.end (items_of f)
    settled_shut file disk same torn holds only usable = record {
      front = take f.end octets;
      gate = shut;
      after = drop 3 (drop (length (take f.end octets)) (seen disk));
      file = shut_is (items_of f) (take f.end octets) (drop f.end octets) file (sym same ∙ split) found.read (seen disk)
          (subst (λ (p : ℕ). Torn p 3 file (seen disk)) (sym front_length) torn)
          (subst (λ (p : ℕ). Holds (seen disk) p (0 ∷ 0 ∷ 0 ∷ [])) (sym front_length) holds);
      read = found.read;
      place = sym front_length;
      three = refl;
      closed = refl;
      durable = only;
      usable = usable;
    }
