-- The packets of the caller are short.
use Rattle.std.proofs.Common.{◌≡◌, ℕ, ◌-◌, ◌/◌, ◌≤◌, ◌<◌, ◌↔◌, Bool, true, false, IsTrue, nat_le, List, [], ◌∷◌, ◌++◌, length, take, drop, replicate, Option, Some, IfSome, refl, sym, ◌∙◌, ap, subst, arith, length-drop, if◌then◌else◌}
use Rattle.std.proofs.lemmas.List.{append-nil, length-replicate, take_all}
use Rattle.fax_frames.specs.declared.dcs.Dcs.{Dcs}
use Rattle.fax_frames.specs.declared.rate.Rate.{Rate}
use Rattle.fax_frames.specs.declared.rate.Rate.TheVariants.{V27At2400, V27At4800, V29At7200, V29At9600, V17At7200, V17At9600, V17At12000, V17At14400}
use Rattle.fax_frames.specs.Rates.{bits_a_second, kind_of}
use Rattle.fax_ifp.specs.WrittenPackets.{written_after, written_message, image_fields}
use Rattle.fax_call.specs.declared.pending.Message.TheVariants as messages
use Rattle.fax_call.specs.declared.pending.Pending.{Pending}
use Rattle.fax_call.specs.declared.pending.Pending.TheVariants.{Nothing, Tone, Preamble, Frame, Training, Check, Image, Text}
use Rattle.fax_call.specs.Replies.{Packet, Part, written, part_length, check_length}
use Rattle.fax_call.specs.Rep.{packet_of, check_part, text_part}

part_short : (kind : ℕ) (last : Bool) (octets : List ℕ) → length octets ≤ 72 → length (written (Part kind last octets)) ≤ 100
unfolding written_after
part_short kind last octets h = let e : length (octets ++ []) ≡ length octets = ap length (append-nil octets) in omega arith

le_if : (m n : ℕ) → nat_le m n ≡ true → m ≤ n
le_if m n h = grind (arith)

few : (rate : Rate) → bits_a_second rate / 200 ≤ 72
few V27At2400 = omega arith
few V27At4800 = omega arith
few V29At7200 = omega arith
few V29At9600 = omega arith
few V17At7200 = omega arith
few V17At9600 = omega arith
few V17At12000 = omega arith
few V17At14400 = omega arith

zeros_few : (n m : ℕ) → n ≤ m → m ≤ 72 → length (replicate {A = ℕ} n 0) ≤ 72
zeros_few n m h k = let e : length (replicate {A = ℕ} n 0) ≡ n = length-replicate n 0 in omega arith

check_short : (dcs : Dcs) (given : ℕ) → length (written (check_part dcs given)) ≤ 100
check_short dcs given = by (nat_le (check_length dcs - given) (part_length dcs)) refl
  where
    by : (t : Bool) → nat_le (check_length dcs - given) (part_length dcs) ≡ t →
        length (written (if◌then◌else◌ {A = Packet} t (Part (kind_of dcs.rate) true (replicate (check_length dcs - given) 0)) (Part (kind_of dcs.rate) false (replicate (part_length dcs) 0)))) ≤ 100
    by true e = part_short (kind_of dcs.rate) true _ (zeros_few (check_length dcs - given) (part_length dcs) (le_if (check_length dcs - given) (part_length dcs) e) (few dcs.rate))
    by false e = part_short (kind_of dcs.rate) false _ (zeros_few (part_length dcs) (part_length dcs) (omega arith) (few dcs.rate))

-- one of an image's octets, of which there are no more than go in 40 ms
octets_short : (dcs : Dcs) (last : Bool) (octets : List ℕ) → length octets ≤ part_length dcs → length (written (Part (kind_of dcs.rate) last octets)) ≤ 100
octets_short dcs last octets h = let k : part_length dcs ≤ 72 = few dcs.rate in part_short (kind_of dcs.rate) last octets (omega arith)

-- whether a packet of a text is the last one, and what it is
over_if : (m n : ℕ) → nat_le m n ≡ false → n < m
over_if m n h = grind arith

le_told : (m n : ℕ) (b : Bool) → (b ≡ true → m ≤ n) → (b ≡ false → n < m) → b ≡ nat_le m n
le_told m n b when_true when_false = by b (nat_le m n) when_true when_false (le_if m n) (over_if m n)
  where
    by : (b t : Bool) → (b ≡ true → m ≤ n) → (b ≡ false → n < m) → (t ≡ true → m ≤ n) → (t ≡ false → n < m) → b ≡ t
    by true true when_true when_false le over = refl
    by false false when_true when_false le over = refl
    by true false when_true when_false le over = let a : m ≤ n = when_true refl in let b : n < m = over refl in absurd (omega arith)
    by false true when_true when_false le over = let a : n < m = when_false refl in let b : m ≤ n = le refl in absurd (omega arith)

pub last_told : (dcs : Dcs) (left : List ℕ) (is_last : Bool) → IsTrue is_last ↔ (drop (part_length dcs) left ≡ []) → is_last ≡ nat_le (length left) (part_length dcs)
last_told dcs left is_last h =
    let after : length (drop (part_length dcs) left) ≡ length left - part_length dcs = length-drop (part_length dcs) left in
    le_told (length left) (part_length dcs) is_last
    (λ e. let none : length (drop (part_length dcs) left) ≡ 0 = ap length (h.0 e) in omega arith)
    (λ e. not_all (drop (part_length dcs) left) after (λ none. let both : is_last ≡ true = h.1 none in cc))
  where
    not_all : (after : List ℕ) → length after ≡ length left - part_length dcs → (after ≡ [] → ⊥) → part_length dcs < length left
    not_all [] size some = absurd (some refl)
    not_all (o ∷ os) size some = omega arith

part_told : (dcs : Dcs) (left given : List ℕ) (is_last : Bool) → given ≡ take (part_length dcs) left → is_last ≡ nat_le (length left) (part_length dcs)
    → Part (kind_of dcs.rate) is_last given ≡ text_part dcs left
part_told dcs left given is_last is told =
    ap (λ (os : List ℕ). Part (kind_of dcs.rate) is_last os) is ∙ ap (λ (b : Bool). Part (kind_of dcs.rate) b (take (part_length dcs) left)) told ∙ by (nat_le (length left) (part_length dcs)) refl
  where
    by : (t : Bool) → nat_le (length left) (part_length dcs) ≡ t →
        Part (kind_of dcs.rate) t (take (part_length dcs) left) ≡ (if◌then◌else◌ {A = Packet} t (Part (kind_of dcs.rate) true left) (Part (kind_of dcs.rate) false (take (part_length dcs) left)))
    by true e = let l : length left ≤ part_length dcs = le_if (length left) (part_length dcs) e in ap (λ (os : List ℕ). Part (kind_of dcs.rate) true os) (take_all (part_length dcs) left l)
    by false e = refl

-- what is put for a part of an image after nothing
part_put : (dcs : Dcs) (own before items : List ℕ) (kind : ℕ) (is_last : Bool) → kind ≡ kind_of dcs.rate → before ≡ [] → items ≡ before ++ written_message kind (image_fields is_last own)
    → items ≡ written (Part (kind_of dcs.rate) is_last own)
part_put dcs own before items kind is_last kind_is none put =
    put ∙ ap (λ (xs : List ℕ). xs ++ written_message kind (image_fields is_last own)) none ∙ ap (λ (k : ℕ). written_message k (image_fields is_last own)) kind_is

pub text_put : (dcs : Dcs) (left own before items : List ℕ) (kind : ℕ) (is_last : Bool) → own ≡ take (part_length dcs) left → is_last ≡ nat_le (length left) (part_length dcs)
    → kind ≡ kind_of dcs.rate → before ≡ [] → items ≡ before ++ written_message kind (image_fields is_last own) → items ≡ written (text_part dcs left)
text_put dcs left own before items kind is_last own_is told kind_is none put =
    part_put dcs own before items kind is_last kind_is none put ∙ ap written (part_told dcs left own is_last own_is told)

pub short_put : (dcs : Dcs) (own before items : List ℕ) (kind : ℕ) (is_last : Bool) → length own ≤ part_length dcs
    → kind ≡ kind_of dcs.rate → before ≡ [] → items ≡ before ++ written_message kind (image_fields is_last own) → length items ≤ 100
short_put dcs own before items kind is_last few kind_is none put =
    subst (λ (os : List ℕ). length os ≤ 100) (sym (part_put dcs own before items kind is_last kind_is none put)) (octets_short dcs is_last own few)

packet_short : (p : Pending) → length (written (packet_of p)) ≤ 100
unfolding written_after
packet_short Nothing = omega arith
packet_short Tone = omega arith
packet_short (Preamble message) = omega arith
packet_short (Frame (messages.Dcs dcs)) = omega arith
packet_short (Frame (messages.Plain plain)) = omega arith
packet_short (Training dcs) = omega arith
packet_short (Check dcs given) = check_short dcs given
packet_short (Image dcs) = omega arith
packet_short (Text dcs plain) = omega arith

-- the same of what is given, where it is one
pub short_as : (p : Pending) (given : Option (List ℕ)) → given ≡ Some (written (packet_of p)) → IfSome given (λ packet. length packet ≤ 100)
short_as p given is = subst (λ (o : Option (List ℕ)). IfSome o (λ packet. length packet ≤ 100)) (sym is) (packet_short p)
