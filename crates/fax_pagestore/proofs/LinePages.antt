-- Octets whose line under way is written anew: whatever follows, they are read as before.
use Rattle.std.proofs.Common.{◌≡◌, ℕ, zero, suc, ◌+◌, ◌*◌, ◌^◌, ◌%◌, ◌<◌, ◌≤◌, Bool, true, false, List, [], ◌∷◌, ◌++◌, Option, Some, None, length, take, drop, replicate, refl, sym, ◌∙◌, ap, subst, arith, inl, inr, ◌⊎◌, append_assoc, append-nil, length-append, length-drop}
use Rattle.std.proofs.lemmas.Bool.{cases_eq}
use Rattle.std.proofs.lemmas.List.{length_push, length-replicate, length-take-le, nil_from_length, take-append-drop}
use Rattle.std.proofs.lemmas.Nat.{mod_below, pow_pos}
use Rattle.fax_bits.specs.Bits.{bit, word_bits, bits_of}
use Rattle.fax_bits.proofs.BitsLemmas.{bits_of-nil, bits_of-cons, word_bits-mod}
use Rattle.fax_bits.proofs.WritingLemmas.{word_bits_sum}
use Rattle.fax_runcodes.specs.declared.format.Coding.{Coding}
use Rattle.fax_runcodes.specs.Rows.{Elements, IsWidth}
use Rattle.fax_runcodes.specs.Widths.{elements_of}
use Rattle.fax_mhcode.proofs.LineLaws.{IsWidth-elements}
use Rattle.fax_mhcode.specs.Lines as mh_lines
use Rattle.fax_mhcode.proofs.FaultLaws as mh
use Rattle.fax_pagestore.specs.declared.fault.PageFault.{PageFault}
use Rattle.fax_pagestore.specs.declared.fault.PageFault.TheVariants.{BadLine, NoRtc, TooManyRows}
use Rattle.fax_pagestore.specs.Ends.{HoldsEol}
use Rattle.fax_pagestore.specs.PageRows.{most_rows}
use Rattle.fax_pagestore.specs.PageTexts.{end_of_line, ReadSoFar, MeansRows}
use Rattle.fax_pagestore.specs.PageFaults.{LineBegins, SeparatorBegins, ReadsRow, WantsLine, Stops, FailsPage, last_of}
use Rattle.fax_pagestore.specs.LinesUnderWay.{BeginSameLine, AreKept}
use Rattle.fax_pagestore.specs.Readers.{AreJudged, AreReadAs, IsAfter, IsReadUpTo, NoMoreIsWhole, ReaderValue}
use Rattle.fax_pagestore.proofs.AlikePages.{zeros_shortest}
use Rattle.fax_pagestore.proofs.FrontLemmas.{front_ends}
use Rattle.fax_pagestore.proofs.LineLemmas.{both_lines, line_begins, same_more}
use Rattle.fax_pagestore.proofs.PageLaws.{pages_are_unique, pages_dont_fail, faults_are_unique}
use Rattle.fax_pagestore.proofs.PageReading.{ReadSoFar-row}
use Rattle.fax_pagestore.proofs.ReadLemmas.{ReadsRow-one}
use Rattle.fax_pagestore.proofs.ReadOrFail.{MeanOrFail, rows_from}
use Rattle.fax_pagestore.proofs.ReaderLemmas.{stops_fail, ReadSoFar-octets}
use Rattle.fax_pagestore.proofs.TextLemmas.{what_begins, width_most}

-- ---- octets of any bits

one_bit : (b : Bool) → (n : ℕ) × (word_bits 1 n ≡ b ∷ [])
unfolding word_bits bit
one_bit true = (1, refl)
one_bit false = (0, refl)

word_of : (n : ℕ) (bits : List Bool) → length bits ≡ n → (w : ℕ) × (word_bits n w ≡ bits)
unfolding word_bits
word_of zero bits size = (0, sym (nil_from_length bits size))
word_of (suc n) [] size = absurd (omega (arith, size))
word_of (suc n) (b ∷ bits) size =
    let top = one_bit b in
    let low = word_of n bits (omega (arith, size)) in
    let m : ℕ = low.0 % 2 ^ n in
    let sum : 1 + n ≡ suc n = omega arith in (
      top.0 * 2 ^ n + m,
      ap (λ k. word_bits k (top.0 * 2 ^ n + m)) (sym sum) ∙ word_bits_sum 1 n top.0 m (mod_below low.0 (2 ^ n) (pow_pos n))
          ∙ ap (λ bs. bs ++ word_bits n m) top.1 ∙ ap (λ bs. b ∷ bs) (word_bits-mod n n low.0 (omega arith) ∙ low.1),
    )

octets_with : (n : ℕ) (bits : List Bool) → length bits ≡ 8 * n → (octets : List ℕ) × (bits_of octets ≡ bits)
octets_with zero bits size = ([], bits_of-nil ∙ sym (nil_from_length bits (omega (arith, size))))
octets_with (suc n) bits size =
    let word = word_of 8 (take 8 bits) (length-take-le 8 bits (omega (arith, size))) in
    let more = octets_with n (drop 8 bits) (omega (arith, size, length-drop 8 bits)) in (
      word.0 ∷ more.0,
      bits_of-cons word.0 more.0 ∙ ap (λ bs. bs ++ bits_of more.0) word.1 ∙ ap (λ bs. take 8 bits ++ bs) more.1 ∙ take-append-drop 8 bits,
    )

-- ---- a front of so many bits

no_eol : (n : ℕ) (before rest : List Bool) → replicate n true ≡ before ++ (end_of_line ++ rest) → ⊥
unfolding end_of_line
no_eol zero [] rest e = cc
no_eol (suc n) [] rest e = cc
no_eol zero (b ∷ before) rest e = cc
no_eol (suc n) (b ∷ before) rest e =
    let tails : replicate n true ≡ before ++ (end_of_line ++ rest) = cc in
    no_eol n before rest tails

ones_hold_none : (n : ℕ) → HoldsEol (replicate n true) → ⊥
ones_hold_none n (before, rest, e) = no_eol n before rest e

-- What is read up to a line is read of other octets too, with other bits after it.
pub read_with : (coding : Coding) (width : ℕ) (octets : List ℕ) (rows : List Elements) (tag : Bool) (bits kept : List Bool) → ReadSoFar coding width octets rows 0 tag bits
    → (others : List ℕ) × ReadSoFar coding width others rows 0 tag kept
read_with coding width octets rows tag bits kept r =
    let one : List Bool = replicate 11 false ++ true ∷ [] in
    let after : List Bool = r.is_front.tag_text ++ (r.lines ++ (r.separators ++ kept)) in
    let size : ℕ = length (one ++ after) in
    let ones : List Bool = replicate (7 * size) true in
    let front : List Bool = ones ++ one in
    let whole : length (ones ++ (one ++ after)) ≡ 8 * size = omega (arith, length-append ones (one ++ after), length-replicate (7 * size) true) in
    let found = octets_with size (ones ++ (one ++ after)) whole in (
      found.0,
      record {
        front = front ++ r.is_front.tag_text;
        lines = r.lines;
        separators = r.separators;
        front_tag = r.front_tag;
        row_tag = r.row_tag;
        is_front = record {
          front = front;
          tag_text = r.is_front.tag_text;
          text_is = refl;
          ends = front_ends ones 11 (omega arith);
          shortest = zeros_shortest ones 11 (ones_hold_none (7 * size));
          is_tag = r.is_front.is_tag;
        };
        spelt = r.spelt;
        in_a_row = r.in_a_row;
        bits_are = found.1 ∙ sym (append_assoc ones one after) ∙ sym (append_assoc front r.is_front.tag_text (r.lines ++ (r.separators ++ kept)));
      },
    )

-- ---- what both are

module _ (coding : Coding) (width : ℕ) (octets others : List ℕ) where
  -- octets are one or the other
  abbrev AreBoth : List ℕ → Type 0
  AreBoth os = (os ≡ octets) ⊎ (os ≡ others)

  both_stop : (rows : List Elements) (a b : List Bool) (fault : PageFault) → length rows ≤ most_rows → ReadSoFar coding width octets rows 0 true a → ReadSoFar coding width others rows 0 true b
      → Stops coding width rows 0 true a fault → Stops coding width rows 0 true b fault → MeanOrFail width coding AreBoth
  both_stop rows a b fault few r s stops also = inr (
    fault,
    λ os here. elim here [
      | inl is ↦ subst (λ (o : List ℕ). FailsPage width coding o fault) (sym is) (stops_fail coding width octets rows true a fault few r stops)
      | inr is ↦ subst (λ (o : List ℕ). FailsPage width coding o fault) (sym is) (stops_fail coding width others rows true b fault few s also)
    ],
  )

  both_go_on : (rows : List Elements) (a b : List Bool) (row : Elements) (rest : List Bool) → length rows < most_rows → ReadSoFar coding width octets rows 0 true a → ReadSoFar coding width others rows 0 true b
      → (line : List Bool) × mh_lines.SpellsLine width line row × (a ≡ line ++ rest) → (line : List Bool) × mh_lines.SpellsLine width line row × (b ≡ line ++ rest) → SeparatorBegins coding rest → MeanOrFail width coding AreBoth
  both_go_on rows a b row rest room r s (line, spelt, e) (text, also, f) (next, separator, left, is, g) =
      rows_from width coding AreBoth (suc (length left)) (rows ++ row ∷ []) next left (omega arith) (omega (arith, length_push rows row, room))
      (λ os here. elim here [
        | inl same ↦
            subst (λ (o : List ℕ). ReadSoFar coding width o (rows ++ row ∷ []) 0 next left) (sym same)
            (ReadSoFar-row coding width octets rows row true next a line separator left r spelt is (e ∙ ap (λ bs. line ++ bs) g ∙ sym (append_assoc line separator left)))
        | inr same ↦
            subst (λ (o : List ℕ). ReadSoFar coding width o (rows ++ row ∷ []) 0 next left) (sym same)
            (ReadSoFar-row coding width others rows row true next b text separator left s also is (f ∙ ap (λ bs. text ++ bs) g ∙ sym (append_assoc text separator left)))
      ])

  both_judged : (rows : List Elements) (a b : List Bool) → length rows ≤ most_rows → ReadSoFar coding width octets rows 0 true a → ReadSoFar coding width others rows 0 true b
      → BeginSameLine width a b → MeanOrFail width coding AreBoth
  both_judged rows a b few r s same =
      let line : LineBegins a = line_begins width a same.row same.colour same.rest same.one in
      let also : LineBegins b = line_begins width b same.row same.colour same.rest same.same in
      elim (cases_eq (length rows) most_rows) [
        | inl full ↦ both_stop rows a b TooManyRows few r s (refl, line, full) (refl, also, full)
        | inr apart ↦
            let wants : WantsLine rows 0 a = record { one_separator = refl; begins = line; room = omega arith } in
            let wants_too : WantsLine rows 0 b = record { one_separator = refl; begins = also; room = omega arith } in
            elim (both_lines width a b same) [
              | inr fail ↦ both_stop rows a b (BadLine (length rows)) few r s (refl, wants, inl (fail.0, fail.1)) (refl, wants_too, inl (fail.0, fail.2))
              | inl read ↦
                  let row : Elements = read.0 in
                  let rest : List Bool = read.1 in
                  let reads : ReadsRow width true (last_of rows) a rest = (read.2.0, row, read.2.1, read.2.2) in
                  let reads_too : ReadsRow width true (last_of rows) b rest = (read.3.0, row, read.3.1, read.3.2) in
                  elim (what_begins coding rest) [
                    | inl next ↦ both_go_on rows a b row rest (omega arith) r s read.2 read.3 next
                    | inr after ↦ elim after [
                      | inl begins ↦ both_stop rows a b (BadLine (length rows)) few r s (refl, wants, inr (rest, reads, begins)) (refl, wants_too, inr (rest, reads_too, begins))
                      | inr out ↦ both_stop rows a b NoRtc few r s (inr (inr (inr (wants, rest, reads, out)))) (inr (inr (inr (wants_too, rest, reads_too, out))))
                    ]
                  ]
            ]
      ]

  -- So octets are what the others are judged to be.
  same_judged : IsWidth width → MeanOrFail width coding AreBoth → (rows : List Elements) (fault : Option PageFault) → AreJudged coding width others rows fault → AreJudged coding width octets rows fault
  same_judged is (inl (rs, means)) rows None judged =
      subst (λ (r : List Elements). MeansRows width coding octets r) (pages_are_unique width coding others rs rows is (means others (inr refl)) judged) (means octets (inl refl))
  same_judged is (inl (rs, means)) rows (Some fault) judged = absurd (pages_dont_fail width coding others rs fault is (means others (inr refl)) judged)
  same_judged is (inr (met, fails)) rows None judged = absurd (pages_dont_fail width coding others rows met is judged (fails others (inr refl)))
  same_judged is (inr (met, fails)) rows (Some fault) judged =
      subst (λ (f : PageFault). FailsPage width coding octets f) (faults_are_unique width coding others met fault is (fails others (inr refl)) judged) (fails octets (inl refl))

-- ---- octets that are read as others

pub AreReadAs-same : (coding : Coding) (width : ℕ) (octets others : List ℕ) → octets ≡ others → AreReadAs coding width octets others
AreReadAs-same coding width octets others same more rows fault judged =
    subst (λ (o : List ℕ). AreJudged coding width (o ++ more) rows fault) (sym same) judged

pub AreReadAs-then : (coding : Coding) (width : ℕ) (a b c : List ℕ) → AreReadAs coding width a b → AreReadAs coding width b c → AreReadAs coding width a c
AreReadAs-then coding width a b c one two more rows fault judged = one more rows fault (two more rows fault judged)

-- with octets after both
pub AreReadAs-more : (coding : Coding) (width : ℕ) (octets others piece : List ℕ) → AreReadAs coding width octets others → AreReadAs coding width (octets ++ piece) (others ++ piece)
AreReadAs-more coding width octets others piece like more rows fault judged =
    subst (λ (o : List ℕ). AreJudged coding width o rows fault) (sym (append_assoc octets piece more))
    (like (piece ++ more) rows fault (subst (λ (o : List ℕ). AreJudged coding width o rows fault) (append_assoc others piece more) judged))

-- with none
pub AreReadAs-here : (coding : Coding) (width : ℕ) (octets others : List ℕ) (rows : List Elements) (fault : Option PageFault) → AreReadAs coding width octets others
    → AreJudged coding width others rows fault → AreJudged coding width octets rows fault
AreReadAs-here coding width octets others rows fault like judged =
    subst (λ (o : List ℕ). AreJudged coding width o rows fault) (append-nil octets)
    (like [] rows fault (subst (λ (o : List ℕ). AreJudged coding width o rows fault) (sym (append-nil others)) judged))

-- ---- a line that is written anew

read_anew : (coding : Coding) (width : ℕ) (octets others : List ℕ) (rows : List Elements) (bits kept : List Bool) → IsWidth width → length rows ≤ most_rows
    → ReadSoFar coding width octets rows 0 true bits → ReadSoFar coding width others rows 0 true kept → BeginSameLine width bits kept → AreReadAs coding width octets others
read_anew coding width octets others rows bits kept is few r s same more found fault judged =
    same_judged coding width (octets ++ more) (others ++ more) is
    (both_judged coding width (octets ++ more) (others ++ more) rows (bits ++ bits_of more) (kept ++ bits_of more) few
    (ReadSoFar-octets coding width octets more rows true bits r) (ReadSoFar-octets coding width others more rows true kept s) (same_more width bits kept (bits_of more) same)) found fault judged

-- where no row is whole in one of both, none is in the other
waits_anew : (coding : Coding) (width : ℕ) (rows : List Elements) (bits kept : List Bool) → IsWidth width → BeginSameLine width bits kept → NoMoreIsWhole coding width rows (Some true) bits
    → NoMoreIsWhole coding width rows (Some true) kept
waits_anew coding width rows bits kept is same waits begins = elim (both_lines width bits kept same) [
  | inr fail ↦ absurd (mh.SpellsLine-not_fails width kept begins.line begins.rest begins.row fail.0 (width_most width is) begins.spelt begins.bits_are fail.2)
  | inl read ↦
      let here : ReadsRow width true (last_of rows) kept begins.rest = (begins.line, begins.row, begins.spelt, begins.bits_are) in
      let there : ReadsRow width true (last_of rows) kept read.1 = (read.3.0, read.0, read.3.1, read.3.2) in
      let rest : begins.rest ≡ read.1 = ReadsRow-one width true (last_of rows) kept begins.rest read.1 here there in
      waits (record { line = read.2.0; row = read.0; rest = read.1; spelt = read.2.1; bits_are = read.2.2; after = subst (SeparatorBegins coding) rest begins.after })
]

-- What a reader keeps of the octets that came, in place of what it has not read.
pub record KeepsOf (octets : List ℕ) (reader : ReaderValue) : Type 0 where
  pub others : List ℕ
  pub read_as : AreReadAs reader.coding (elements_of reader.format.width) octets others
  pub after : IsAfter others reader

keeps_anew : (octets : List ℕ) (reader : ReaderValue) (kept : List Bool) → length reader.rows ≤ most_rows → IsAfter octets reader → reader.tag ≡ Some true → reader.settled ≡ None
    → BeginSameLine (elements_of reader.format.width) reader.left kept → KeepsOf octets (record reader { left = kept })
keeps_anew octets reader kept few has tag not_yet same =
    let width : ℕ = elements_of reader.format.width in
    let is : IsWidth width = IsWidth-elements reader.format.width in
    let r : ReadSoFar reader.coding width octets reader.rows 0 true reader.left =
    subst (λ (t : Option Bool). IsReadUpTo reader.coding width octets reader.rows t reader.left) tag (has.read not_yet) in
    let waits : NoMoreIsWhole reader.coding width reader.rows (Some true) reader.left =
    subst (λ (t : Option Bool). NoMoreIsWhole reader.coding width reader.rows t reader.left) tag (has.waits not_yet) in
    let found = read_with reader.coding width octets reader.rows true reader.left kept r in
    record {
      others = found.0;
      read_as = read_anew reader.coding width octets found.0 reader.rows reader.left kept is few r found.1 same;
      after = record {
        read = λ later. subst (λ (t : Option Bool). IsReadUpTo reader.coding width found.0 reader.rows t kept) (sym tag) found.1;
        waits = λ later. subst (λ (t : Option Bool). NoMoreIsWhole reader.coding width reader.rows t kept) (sym tag) (waits_anew reader.coding width reader.rows reader.left kept is same waits);
        settled = λ what some. absurd (cc (not_yet, some));
      };
    }

pub keeps_of : (octets : List ℕ) (reader : ReaderValue) (kept : List Bool) → length reader.rows ≤ most_rows → IsAfter octets reader
    → AreKept (elements_of reader.format.width) reader.tag reader.settled reader.left kept → KeepsOf octets (record reader { left = kept })
keeps_of octets reader kept few has (inl same) = record {
  others = octets;
  read_as = AreReadAs-same reader.coding (elements_of reader.format.width) octets octets refl;
  after = subst (λ (bits : List Bool). IsAfter octets (record reader { left = bits })) (sym same) has;
}
keeps_of octets reader kept few has (inr (tag, not_yet, same)) = keeps_anew octets reader kept few has tag not_yet same
