-- Octets are read as one record, so a file tells one list of records.
use Rattle.std.proofs.Common.{◌≡◌, ℕ, ◌<◌, ◌^◌, Bool, true, false, List, [], ◌∷◌, ◌++◌, length, take, drop, get_or, refl, sym, ◌∙◌, ap, subst, arith}
use Rattle.std.proofs.lemmas.List.{take_at}
use Rattle.std.proofs.lemmas.Nat.{from_be_bytes-to_be_bytes_4}
use Rattle.std.specs.Int.{w32, to_be_bytes, from_be_bytes}
use Rattle.fax_runcodes.specs.declared.Width.{Width}
use Rattle.fax_runcodes.specs.declared.Width.TheVariants.{W1728, W2048, W2432}
use Rattle.fax_runcodes.specs.declared.format.Format.{Format}
use Rattle.fax_jobs.specs.declared.outcome.Outcome.{Outcome}
use Rattle.fax_jobs.specs.declared.outcome.Outcome.TheVariants.{Delivered, NotReceiver, WidthLacking, FineLacking, RatesSpent, NoAnswer, NoReply, PageRefused, HungUp, NotPlaced}
use Rattle.fax_jobs.specs.Outcomes.{outcome_number}
use Rattle.fax_spool.specs.RecordOctets.{PageValue, EndedValue, PageFits, EndFits, page_octets, ended_octets, epoch_octets, short_octets, width_octet, flag_octet}
use Rattle.fax_spool.specs.SpoolRecords.{IsReadAs, AreReadAs}
use Rattle.fax_spool.specs.Spools.{TellsOneList}
use Rattle.fax_spool.specs.declared.spool_record.SpoolRecord.{SpoolRecord}
use Rattle.fax_spool.specs.declared.spool_record.SpoolRecord.TheVariants.{Page, Ended, Epoch, Damaged}
use Rattle.fax_spool.proofs.Digests.{seals_are_one}
use Rattle.fax_spool.proofs.Headers.{unique}
use Rattle.fax_spool.proofs.Shorts.{after_short}

-- ---- one field

number_back : (n m : ℕ) → n < 2 ^ 32 → m < 2 ^ 32 → to_be_bytes w32 n ≡ to_be_bytes w32 m → n ≡ m
number_back n m fn fm same = sym (from_be_bytes-to_be_bytes_4 n fn) ∙ ap (λ (l : List ℕ). from_be_bytes w32 l) same ∙ from_be_bytes-to_be_bytes_4 m fm

width_back : (w : Width) → get_or (W1728 ∷ W2048 ∷ W2432 ∷ []) (width_octet w) W1728 ≡ w
width_back W1728 = refl
width_back W2048 = refl
width_back W2432 = refl

same_width : (w v : Width) → width_octet w ≡ width_octet v → w ≡ v
same_width w v same = sym (width_back w) ∙ ap (λ (n : ℕ). get_or (W1728 ∷ W2048 ∷ W2432 ∷ []) n W1728) same ∙ width_back v

flag_back : (b : Bool) → get_or (false ∷ true ∷ []) (flag_octet b) false ≡ b
flag_back false = refl
flag_back true = refl

same_flag : (a b : Bool) → flag_octet a ≡ flag_octet b → a ≡ b
same_flag a b same = sym (flag_back a) ∙ ap (λ (n : ℕ). get_or (false ∷ true ∷ []) n false) same ∙ flag_back b

outcomes : List Outcome
outcomes = Delivered ∷ NotReceiver ∷ WidthLacking ∷ FineLacking ∷ RatesSpent ∷ NoAnswer ∷ NoReply ∷ PageRefused ∷ HungUp ∷ NotPlaced ∷ []

outcome_back : (o : Outcome) → get_or outcomes (outcome_number o) Delivered ≡ o
unfolding outcomes
outcome_back Delivered = refl
outcome_back NotReceiver = refl
outcome_back WidthLacking = refl
outcome_back FineLacking = refl
outcome_back RatesSpent = refl
outcome_back NoAnswer = refl
outcome_back NoReply = refl
outcome_back PageRefused = refl
outcome_back HungUp = refl
outcome_back NotPlaced = refl

same_outcome : (a b : Outcome) → outcome_number a ≡ outcome_number b → a ≡ b
same_outcome a b same = sym (outcome_back a) ∙ ap (λ (n : ℕ). get_or outcomes n Delivered) same ∙ outcome_back b

abbrev format_with : Width → Bool → Format
format_with w b = record { width = w; fine = b }

built_format : (w v : Width) (a b : Bool) → w ≡ v → a ≡ b → format_with w a ≡ format_with v b
built_format w v a b ws bs = cc

same_format : (f g : Format) → width_octet f.width ≡ width_octet g.width → flag_octet f.fine ≡ flag_octet g.fine → f ≡ g
same_format f g width fine = built_format f.width g.width f.fine g.fine (same_width f.width g.width width) (same_flag f.fine g.fine fine)

-- a name after its length
same_short : (a b x y : List ℕ) → short_octets a ++ x ≡ short_octets b ++ y → a ≡ b
same_short a b x y same =
    sym (take_at a x (length a) refl)
    ∙ ap (λ (l : List ℕ). take (get_or l 0 0) (drop 1 l)) same
    ∙ take_at b y (length b) refl

-- ---- one record

abbrev page_with : ℕ → ℕ → ℕ → Format → Bool → List ℕ → List ℕ → List ℕ → PageValue
page_with life call number format closes line tag text = record { life = life; call = call; number = number; format = format; closes = closes; line = line; tag = tag; text = text }

built_page :
    (p q : PageValue) → p.life ≡ q.life → p.call ≡ q.call → p.number ≡ q.number → p.format ≡ q.format → p.closes ≡ q.closes → p.line ≡ q.line → p.tag ≡ q.tag → p.text ≡ q.text
    → page_with p.life p.call p.number p.format p.closes p.line p.tag p.text ≡ page_with q.life q.call q.number q.format q.closes q.line q.tag q.text
built_page p q life call number format closes line tag text = cc

abbrev end_with : ℕ → ℕ → ℕ → ℕ → ℕ → Format → Outcome → List ℕ → EndedValue
end_with life call first pages delivered format outcome line =
    record { life = life; call = call; first = first; pages = pages; delivered = delivered; format = format; outcome = outcome; line = line }

built_end :
    (e f : EndedValue) → e.life ≡ f.life → e.call ≡ f.call → e.first ≡ f.first → e.pages ≡ f.pages → e.delivered ≡ f.delivered → e.format ≡ f.format → e.outcome ≡ f.outcome → e.line ≡ f.line
    → end_with e.life e.call e.first e.pages e.delivered e.format e.outcome e.line ≡ end_with f.life f.call f.first f.pages f.delivered f.format f.outcome f.line
built_end e f life call first pages delivered format outcome line = cc

pub same_page : (p q : PageValue) → PageFits p → PageFits q → page_octets p ≡ page_octets q → p ≡ q
same_page p q fp fq same =
    let part : (n m : ℕ) → take m (drop n (page_octets p)) ≡ take m (drop n (page_octets q)) = λ n m. ap (λ (l : List ℕ). take m (drop n l)) same in
    let octet : (n : ℕ) → get_or (page_octets p) n 0 ≡ get_or (page_octets q) n 0 = λ n. ap (λ (l : List ℕ). get_or l n 0) same in
    let texts : short_octets p.line ++ (short_octets p.tag ++ p.text) ≡ short_octets q.line ++ (short_octets q.tag ++ q.text) = ap (λ (l : List ℕ). drop 16 l) same in
    let after : short_octets p.tag ++ p.text ≡ short_octets q.tag ++ q.text = after_short p.line q.line _ _ texts in
    let life : p.life ≡ q.life = number_back p.life q.life fp.life fq.life (part 1 4) in
    let call : p.call ≡ q.call = number_back p.call q.call fp.call fq.call (part 5 4) in
    let number : p.number ≡ q.number = number_back p.number q.number fp.number fq.number (part 9 4) in
    let format : p.format ≡ q.format = same_format p.format q.format (octet 13) (octet 14) in
    let closes : p.closes ≡ q.closes = same_flag p.closes q.closes (octet 15) in
    let line : p.line ≡ q.line = same_short p.line q.line _ _ texts in
    let tag : p.tag ≡ q.tag = same_short p.tag q.tag _ _ after in
    let text : p.text ≡ q.text = after_short p.tag q.tag p.text q.text after in
    built_page p q life call number format closes line tag text

same_end : (e f : EndedValue) → EndFits e → EndFits f → ended_octets e ≡ ended_octets f → e ≡ f
same_end e f fe ff same =
    let part : (n m : ℕ) → take m (drop n (ended_octets e)) ≡ take m (drop n (ended_octets f)) = λ n m. ap (λ (l : List ℕ). take m (drop n l)) same in
    let octet : (n : ℕ) → get_or (ended_octets e) n 0 ≡ get_or (ended_octets f) n 0 = λ n. ap (λ (l : List ℕ). get_or l n 0) same in
    let life : e.life ≡ f.life = number_back e.life f.life fe.life ff.life (part 1 4) in
    let call : e.call ≡ f.call = number_back e.call f.call fe.call ff.call (part 5 4) in
    let pages : e.pages ≡ f.pages = number_back e.pages f.pages fe.pages ff.pages (part 9 4) in
    let delivered : e.delivered ≡ f.delivered = number_back e.delivered f.delivered fe.delivered ff.delivered (part 13 4) in
    let format : e.format ≡ f.format = same_format e.format f.format (octet 17) (octet 18) in
    let outcome : e.outcome ≡ f.outcome = same_outcome e.outcome f.outcome (octet 19) in
    let first : e.first ≡ f.first = number_back e.first f.first fe.first ff.first (part 20 4) in
    let line : e.line ≡ f.line = ap (λ (l : List ℕ). drop 25 l) same in
    built_end e f life call first pages delivered format outcome line

-- the kinds differ in their first octet
kinds : (a b : List ℕ) → a ≡ b → get_or a 0 0 ≡ get_or b 0 0
kinds a b same = ap (λ (l : List ℕ). get_or l 0 0) same

one_reading : (octets : List ℕ) (a b : SpoolRecord) → IsReadAs octets a → IsReadAs octets b → a ≡ b
one_reading octets (Page p) (Page q) a b = ap Page (same_page p q a.1 b.1 (seals_are_one _ _ (sym a.0 ∙ b.0)))
one_reading octets (Page p) (Ended e) a b = absurd (omega (arith, kinds _ _ (seals_are_one (page_octets p) (ended_octets e) (sym a.0 ∙ b.0))))
one_reading octets (Page p) (Epoch n) a b = absurd (omega (arith, kinds _ _ (seals_are_one (page_octets p) (epoch_octets n) (sym a.0 ∙ b.0))))
one_reading octets (Page p) Damaged a b = absurd (b.no_page p a.0)
one_reading octets (Ended e) (Page q) a b = absurd (omega (arith, kinds _ _ (seals_are_one (ended_octets e) (page_octets q) (sym a.0 ∙ b.0))))
one_reading octets (Ended e) (Ended f) a b = ap Ended (same_end e f a.1 b.1 (seals_are_one _ _ (sym a.0 ∙ b.0)))
one_reading octets (Ended e) (Epoch n) a b = absurd (omega (arith, kinds _ _ (seals_are_one (ended_octets e) (epoch_octets n) (sym a.0 ∙ b.0))))
one_reading octets (Ended e) Damaged a b = absurd (b.no_end e a.0)
one_reading octets (Epoch n) (Page q) a b = absurd (omega (arith, kinds _ _ (seals_are_one (epoch_octets n) (page_octets q) (sym a.0 ∙ b.0))))
one_reading octets (Epoch n) (Ended f) a b = absurd (omega (arith, kinds _ _ (seals_are_one (epoch_octets n) (ended_octets f) (sym a.0 ∙ b.0))))
one_reading octets (Epoch n) (Epoch m) a b =
    ap Epoch (number_back n m a.1 b.1 (ap (λ (l : List ℕ). drop 1 l) (seals_are_one (epoch_octets n) (epoch_octets m) (sym a.0 ∙ b.0))))
one_reading octets (Epoch n) Damaged a b = absurd (b.no_epoch n a.0)
one_reading octets Damaged (Page q) a b = absurd (a.no_page q b.0)
one_reading octets Damaged (Ended f) a b = absurd (a.no_end f b.0)
one_reading octets Damaged (Epoch m) a b = absurd (a.no_epoch m b.0)
one_reading octets Damaged Damaged a b = refl

-- ---- all of them

pub one_list : (items : List (List ℕ)) (records others : List SpoolRecord) → AreReadAs items records → AreReadAs items others → records ≡ others
one_list [] [] [] a b = refl
one_list [] [] (s ∷ others) a b = absurd b
one_list [] (r ∷ records) others a b = absurd a
one_list (i ∷ items) [] others a b = absurd a
one_list (i ∷ items) (r ∷ records) [] a b = absurd b
one_list (i ∷ items) (r ∷ records) (s ∷ others) a b =
    ap (λ (l : SpoolRecord). l ∷ records) (one_reading i r s a.0 b.0) ∙ ap (λ (l : List SpoolRecord). s ∷ l) (one_list items records others a.1 b.1)

pub tells_one_list : TellsOneList
tells_one_list file records others a b =
    one_list b.items records others (subst (λ (l : List (List ℕ)). AreReadAs l records) (unique file a.items b.items a.stands b.stands) a.read) b.read
