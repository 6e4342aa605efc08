-- What a crash leaves in each step of a `put`.
use Rattle.std.proofs.Common.{◌≡◌, ◌⊎◌, inl, inr, ℕ, ◌+◌, ◌<◌, ◌≤◌, Bool, true, false, IsTrue, List, [], ◌∷◌, ◌++◌, length, take, drop, refl, sym, ◌∙◌, ap, subst, arith, append_assoc, length-append, length-drop, take-append-drop}
use Rattle.std.proofs.lemmas.List.{take_at, drop_at, drop-drop, drop-append-le, length-take-le}
use Rattle.std.proofs.lemmas.List.Elements.{All-head, All-tail}
use Rattle.std.specs.List.{All}
use Rattle.sqlite_disk.specs.Disk.{Torn, Holds, Follows, Only, Cut}
use Rattle.fax_spool.specs.Records.{AreRead, BeginsWith, IsShort, Stands, blocks, body, is_open, shut}
use Rattle.fax_spool.specs.Settled.{IsSettled}
use Rattle.fax_spool.proofs.Files.{torn_front, torn_back, held, cut_front}
use Rattle.fax_spool.proofs.Headers.{begins_regated, begins_written, long_enough, read_append, read_written, stands_shut}

module _ (front gate after old : List ℕ) (three : length gate ≡ 3) (is : old ≡ front ++ (gate ++ after)) where
  pub long : length old ≡ length front + 3 + length after
  long = omega (arith, ap length is, length-append front (gate ++ after), length-append gate after, three)

  after_gate : old ≡ (front ++ gate) ++ after
  after_gate = is ∙ sym (append_assoc front gate after)

  gate_ends : length (front ++ gate) ≡ length front + 3
  gate_ends = omega (arith, length-append front gate, three)

  front_is : take (length front + 3) old ≡ front ++ gate
  front_is = ap (λ (l : List ℕ). take (length front + 3) l) after_gate ∙ take_at (front ++ gate) after (length front + 3) gate_ends

  -- what stands after the gate is anything
  pub kept : (m : ℕ) (c : List ℕ) → Torn (length front + 3) m old c → c ≡ front ++ (gate ++ drop (length front + 3) c)
  kept m c torn =
      sym (take-append-drop (length front + 3) c)
      ∙ ap (λ (l : List ℕ). l ++ drop (length front + 3) c) (torn_front _ m old c torn (omega (arith, long)) ∙ front_is)
      ∙ append_assoc front gate (drop (length front + 3) c)

  -- and then what was written
  pub staged : (b c : List ℕ) → Torn (length front + 3) (length (b ++ shut)) old c → Holds c (length front + 3) (b ++ shut)
      → (tail : List ℕ) × (c ≡ front ++ (gate ++ (b ++ (shut ++ tail))))
  staged b c torn holds =
      let bytes = b ++ shut in
      let back = drop (length front + 3) c in
      let tail = drop (length bytes) back in
      let split : back ≡ b ++ (shut ++ tail) =
      sym (take-append-drop (length bytes) back)
      ∙ ap (λ (l : List ℕ). l ++ tail) (held c (length front + 3) bytes holds)
      ∙ append_assoc b shut tail in
      (tail, kept _ c torn ∙ ap (λ (l : List ℕ). front ++ (gate ++ l)) split)

  -- the gate is anything, and all else as it was
  pub turned : (c : List ℕ) → Torn (length front) 3 old c → c ≡ front ++ (take 3 (drop (length front) c) ++ after)
  turned c torn =
      let le : length front + 3 ≤ length old = omega (arith, long) in
      let back : drop 3 (drop (length front) c) ≡ after =
      drop-drop 3 (length front) c
      ∙ torn_back _ 3 old c torn le
      ∙ ap (λ (l : List ℕ). drop (length front + 3) l) after_gate
      ∙ drop_at (front ++ gate) after (length front + 3) gate_ends in
      let first : take (length front) c ≡ front =
      torn_front _ 3 old c torn (omega (arith, le)) ∙ ap (λ (l : List ℕ). take (length front) l) is ∙ take_at front (gate ++ after) (length front) refl in
      sym (take-append-drop (length front) c)
      ∙ ap (λ (l : List ℕ). l ++ drop (length front) c) first
      ∙ ap (λ (l : List ℕ). front ++ l)
      (sym (take-append-drop 3 (drop (length front) c)) ∙ ap (λ (l : List ℕ). take 3 (drop (length front) c) ++ l) back)

  pub gate_left : (c : List ℕ) → Torn (length front) 3 old c → length (take 3 (drop (length front) c)) ≡ 3
  gate_left c torn = length-take-le 3 (drop (length front) c) (omega (arith, long, torn.no_shorter, length-drop (length front) c))

-- ---- records that were written after a gate

-- the octets of a first record and of others, after a gate
abbrev written : List ℕ → List (List ℕ) → List ℕ
written r others = body r ++ blocks others

read_more : (front gate r : List ℕ) (rs others : List (List ℕ)) → AreRead front rs → length gate ≡ 3 → is_open gate ≡ true → All IsShort (r ∷ others) → AreRead (front ++ (gate ++ written r others)) (rs ++ r ∷ others)
read_more front gate r rs others read three open_gate short =
    read_append front (gate ++ written r others) rs (r ∷ others) read
    (blocks others, begins_written gate r (blocks others) three open_gate (All-head IsShort r others short), read_written others (All-tail IsShort r others short))

pub front_more : (front gate b tail c : List ℕ) → c ≡ front ++ (gate ++ (b ++ (shut ++ tail))) → c ≡ (front ++ (gate ++ b)) ++ (shut ++ tail)
front_more front gate b tail c is =
    is ∙ ap (λ (l : List ℕ). front ++ l) (sym (append_assoc gate b (shut ++ tail))) ∙ sym (append_assoc front (gate ++ b) (shut ++ tail))

-- whole records after any gate count or they do not
either_by :
    (front gate r tail c : List ℕ) (rs others : List (List ℕ)) (b : Bool) → is_open gate ≡ b → AreRead front rs → length gate ≡ 3 → All IsShort (r ∷ others)
    → c ≡ front ++ (gate ++ (written r others ++ (shut ++ tail))) → Stands c rs ⊎ Stands c (rs ++ r ∷ others)
either_by front gate r tail c rs others false closed read three short is = inl (stands_shut front gate (written r others ++ (shut ++ tail)) c rs read three closed is)
either_by front gate r tail c rs others true opened read three short is =
    inr (stands_shut (front ++ (gate ++ written r others)) shut tail c (rs ++ r ∷ others) (read_more front gate r rs others read three opened short) refl refl
    (front_more front gate (written r others) tail c is))

-- a spool between two calls, and the two writes of a `put`
module _ {D : Type 0} (seen : D → List ℕ) (may_leave : D → List ℕ → Type 0) (is_usable : D → Bool) (disk : D) (at : ℕ) (rs : List (List ℕ)) (s : IsSettled seen may_leave is_usable disk at rs) where
  at_place : (P : ℕ → Type 0) → P at → P (length s.front)
  at_place P h = subst P s.place h

  pub rests : (c : List ℕ) → may_leave disk c → Stands c rs
  rests c left = stands_shut s.front s.gate s.after c rs s.read s.three s.closed (s.durable c left ∙ s.file)

  pub first_left : (m : ℕ) (new : List ℕ → Type 0) → Follows (Torn (at + 3) m) (may_leave disk) new → (c : List ℕ) → new c → Stands c rs
  first_left m new follows c left =
      let from = follows c left in
      let here : Torn (at + 3) m (seen disk) c = subst (λ (d : List ℕ). Torn (at + 3) m d c) (s.durable from.0 from.1) from.2 in
      stands_shut s.front s.gate (drop (length s.front + 3) c) c rs s.read s.three s.closed
      (kept s.front s.gate s.after (seen disk) s.three s.file m c (at_place (λ (p : ℕ). Torn (p + 3) m (seen disk) c) here))

  pub first_written : (b bytes next : List ℕ) → bytes ≡ b ++ shut → Torn (at + 3) (length bytes) (seen disk) next → Holds next (at + 3) bytes
      → (tail : List ℕ) × (next ≡ s.front ++ (s.gate ++ (b ++ (shut ++ tail))))
  first_written b bytes next are torn holds =
      staged s.front s.gate s.after (seen disk) s.three s.file b next
      (subst (λ (l : List ℕ). Torn (length s.front + 3) (length l) (seen disk) next) are (at_place (λ (p : ℕ). Torn (p + 3) (length bytes) (seen disk) next) torn))
      (subst (λ (l : List ℕ). Holds next (length s.front + 3) l) are (at_place (λ (p : ℕ). Holds next (p + 3) bytes) holds))

  module _ (others : List (List ℕ)) (r tail file : List ℕ) (is : file ≡ s.front ++ (s.gate ++ (body r ++ blocks others ++ (shut ++ tail)))) (short : All IsShort (r ∷ others)) where
    pub before_gate : Stands file rs
    before_gate = stands_shut s.front s.gate (body r ++ blocks others ++ (shut ++ tail)) file rs s.read s.three s.closed is

    pub second_left : (old new : List ℕ → Type 0) → Only file old → Follows (Torn at 3) old new → (c : List ℕ) → new c → Stands c rs ⊎ Stands c (rs ++ r ∷ others)
    second_left old new only follows c left =
        let from = follows c left in
        let here : Torn at 3 file c = subst (λ (d : List ℕ). Torn at 3 d c) (only from.0 from.1) from.2 in
        let there : Torn (length s.front) 3 file c = at_place (λ (p : ℕ). Torn p 3 file c) here in
        either_by s.front (take 3 (drop (length s.front) c)) r tail c rs others (is_open (take 3 (drop (length s.front) c))) refl s.read
        (gate_left s.front s.gate (body r ++ blocks others ++ (shut ++ tail)) file s.three is c there) short
        (turned s.front s.gate (body r ++ blocks others ++ (shut ++ tail)) file s.three is c there)

    pub second_written : (c : List ℕ) → Torn at 3 file c → Holds c at (1 ∷ 1 ∷ 1 ∷ []) → c ≡ (s.front ++ (1 ∷ 1 ∷ 1 ∷ [] ++ (body r ++ blocks others))) ++ (shut ++ tail)
    second_written c torn holds =
        let there : Holds c (length s.front) (1 ∷ 1 ∷ 1 ∷ []) = at_place (λ (p : ℕ). Holds c p (1 ∷ 1 ∷ 1 ∷ [])) holds in
        front_more s.front (1 ∷ 1 ∷ 1 ∷ []) (body r ++ blocks others) tail c
        (turned s.front s.gate (body r ++ blocks others ++ (shut ++ tail)) file s.three is c (at_place (λ (p : ℕ). Torn p 3 file c) torn)
        ∙ ap (λ (g : List ℕ). s.front ++ (g ++ (body r ++ blocks others ++ (shut ++ tail)))) (held c (length s.front) (1 ∷ 1 ∷ 1 ∷ []) there))

    pub settled_more : (bytes : List ℕ) (next : D) → bytes ≡ body r ++ blocks others ++ shut → seen next ≡ (s.front ++ (1 ∷ 1 ∷ 1 ∷ [] ++ (body r ++ blocks others))) ++ (shut ++ tail) → Only (seen next) (may_leave next) → IsTrue (is_usable next)
        → IsSettled seen may_leave is_usable next (at + length bytes) (rs ++ r ∷ others)
    settled_more bytes next are file_is only usable = record {
      front = s.front ++ (1 ∷ 1 ∷ 1 ∷ [] ++ (body r ++ blocks others));
      gate = shut;
      after = tail;
      file = file_is;
      read = read_more s.front (1 ∷ 1 ∷ 1 ∷ []) r rs others s.read refl refl short;
      place = omega (arith, s.place, ap length are, length-append (body r ++ blocks others) shut, length-append s.front (1 ∷ 1 ∷ 1 ∷ [] ++ (body r ++ blocks others)));
      three = refl;
      closed = refl;
      durable = only;
      usable = usable;
    }

-- ---- the first gate, which a `clear` shuts

pub none_open : (front : List ℕ) (rs : List (List ℕ)) → AreRead front rs → length front ≡ 0 → rs ≡ []
none_open front [] read none = refl
none_open front (r ∷ rs) read none = absurd (omega (arith, none, long_enough front r read.0 read.1))

cleared_by :
    (rs : List (List ℕ)) (front gate after other file c : List ℕ) (b : Bool) → is_open other ≡ b → AreRead front rs → 0 < length front → length gate ≡ 3 → is_open gate ≡ false → length other ≡ 3
    → file ≡ front ++ (gate ++ after) → c ≡ other ++ drop 3 file → Stands c rs ⊎ Stands c []
cleared_by rs front gate after other file c false closed read some three shuts threes is left =
    inr (stands_shut [] other (drop 3 file) c [] refl threes closed left)
cleared_by [] front gate after other file c true opened read some three shuts threes is left = absurd (omega (arith, some, ap length read))
cleared_by (r ∷ rs) front gate after other file c true opened read some three shuts threes is left =
    let long : 3 ≤ length front = omega (arith, long_enough front r read.0 read.1) in
    let back : drop 3 file ≡ drop 3 front ++ (gate ++ after) = ap (λ (l : List ℕ). drop 3 l) is ∙ drop-append-le 3 front (gate ++ after) long in
    let begins : BeginsWith (take 3 front ++ drop 3 front) r read.0 = subst (λ (l : List ℕ). BeginsWith l r read.0) (sym (take-append-drop 3 front)) read.1 in
    inl (stands_shut (other ++ drop 3 front) gate after c (r ∷ rs)
    (read.0, begins_regated (take 3 front) other (drop 3 front) r read.0 (length-take-le 3 front long) threes opened begins, read.2)
    three shuts
    (left ∙ ap (λ (l : List ℕ). other ++ l) back ∙ sym (append_assoc other (drop 3 front) (gate ++ after))))

module _ {D : Type 0} (seen : D → List ℕ) (may_leave : D → List ℕ → Type 0) (is_usable : D → Bool) (disk : D) (at : ℕ) (rs : List (List ℕ)) (s : IsSettled seen may_leave is_usable disk at rs) where
  some_octets : 3 ≤ length (seen disk)
  some_octets = omega (arith, long s.front s.gate s.after (seen disk) s.three s.file)

  pub shut_first : (c : List ℕ) → Torn 0 3 (seen disk) c → c ≡ take 3 c ++ drop 3 (seen disk)
  shut_first c torn = sym (take-append-drop 3 c) ∙ ap (λ (l : List ℕ). take 3 c ++ l) (torn_back 0 3 (seen disk) c torn some_octets)

  pub clear_left : 0 < at → (new : List ℕ → Type 0) → Follows (Torn 0 3) (may_leave disk) new → (c : List ℕ) → new c → Stands c rs ⊎ Stands c []
  clear_left some new follows c left =
      let from = follows c left in
      let torn : Torn 0 3 (seen disk) c = subst (λ (d : List ℕ). Torn 0 3 d c) (s.durable from.0 from.1) from.2 in
      cleared_by rs s.front s.gate s.after (take 3 c) (seen disk) c (is_open (take 3 c)) refl s.read (omega (arith, some, s.place)) s.three s.closed
      (length-take-le 3 c (omega (arith, some_octets, torn.no_shorter))) s.file (shut_first c torn)

  pub settled_none : (next : D) → Torn 0 3 (seen disk) (seen next) → Holds (seen next) 0 (0 ∷ 0 ∷ 0 ∷ []) → Only (seen next) (may_leave next) → IsTrue (is_usable next)
      → IsSettled seen may_leave is_usable next 0 []
  settled_none next torn holds only usable = record {
    front = [];
    gate = shut;
    after = drop 3 (seen disk);
    file = shut_first (seen next) torn ∙ ap (λ (l : List ℕ). l ++ drop 3 (seen disk)) (held (seen next) 0 (0 ∷ 0 ∷ 0 ∷ []) holds);
    read = refl;
    place = refl;
    three = refl;
    closed = refl;
    durable = only;
    usable = usable;
  }

-- ---- a file without a record, which is cut after its gate
module _ {D : Type 0} (seen : D → List ℕ) (may_leave : D → List ℕ → Type 0) (is_usable : D → Bool) (disk : D) (s : IsSettled seen may_leave is_usable disk 0 []) where
  all_is : seen disk ≡ s.gate ++ s.after
  all_is = s.file ∙ ap (λ (l : List ℕ). l ++ (s.gate ++ s.after)) s.read

  pub cut_is : (c : List ℕ) → Cut 3 (seen disk) c → c ≡ s.gate ++ drop 3 c
  cut_is c cut =
      let some : 3 ≤ length (seen disk) = omega (arith, ap length all_is, length-append s.gate s.after, s.three) in
      let first : take 3 c ≡ s.gate = cut_front 3 (seen disk) c cut some ∙ ap (λ (l : List ℕ). take 3 l) all_is ∙ take_at s.gate s.after 3 s.three in
      sym (take-append-drop 3 c) ∙ ap (λ (l : List ℕ). l ++ drop 3 c) first

  pub cut_left : (new : List ℕ → Type 0) → Follows (Cut 3) (may_leave disk) new → (c : List ℕ) → new c → Stands c []
  cut_left new follows c left =
      let from = follows c left in
      let cut : Cut 3 (seen disk) c = subst (λ (d : List ℕ). Cut 3 d c) (s.durable from.0 from.1) from.2 in
      stands_shut [] s.gate (drop 3 c) c [] refl s.three s.closed (cut_is c cut)

  pub settled_cut : (next : D) → Cut 3 (seen disk) (seen next) → Only (seen next) (may_leave next) → IsTrue (is_usable next) → IsSettled seen may_leave is_usable next 0 []
  settled_cut next cut only usable = record {
    front = [];
    gate = s.gate;
    after = drop 3 (seen next);
    file = cut_is (seen next) cut;
    read = refl;
    place = refl;
    three = s.three;
    closed = s.closed;
    durable = only;
    usable = usable;
  }
