use Rattle.std.proofs.Common.{◌+◌, ◌-◌, ◌≤◌, ◌≡◌, ◌++◌, length, ◌*◌, Bool, List, ℕ, None, IsSome, is_some, drop, sym, ap, ◌∙◌, subst, arith}
use Rattle.fax_bits.specs.Bits.{bits_of}
use Rattle.fax_runcodes.specs.Widths.{elements_of}
use Rattle.fax_pagestore.specs.Ends.{HoldsEol}
use Rattle.fax_pagestore.specs.Fill.{less_fill, zeros_after}
use Rattle.fax_pagestore.proofs.FillLemmas.{less_fill-append, zeros_after-append}
use Rattle.fax_pagestore.specs.Readers.{HasRead, IsAfter, ReaderValue, IsReadUpTo, NoMoreIsWhole, AreReadAs, most_kept}
use Rattle.fax_pagestore.proofs.LineLemmas.{few_bits}
use Rattle.fax_pagestore.proofs.LinePages.{AreReadAs-more, AreReadAs-then, keeps_of}
use Rattle.fax_pagestore.proofs.ReaderLemmas.{some_if, none_if, not_none, IsReadUpTo-more, IsAfter-settled, nothing_left, piece_waits, fill_kept}
use Rattle.fax_pagestore.proofs.reader.PageReader.feed.Goals as goal

pub returns-then-is_some-clause-read : goal.returns-then-is_some-clause-read
returns-then-is_some-clause-read g c = λ octets has.
    let some : IsSome c.args.self.now.settled = ap (λ (r : ReaderValue). is_some r.settled) (sym c.self.view_is) ∙ sym c.is_some.ensures ∙ c.if-is_some.true in
    let less : List ℕ = less_fill 0 octets in
    let piece : List ℕ = less_fill (zeros_after 0 octets) c.args.piece.now in
    record {
      others = has.others ++ piece;
      read_as = subst (λ (os : List ℕ). AreReadAs c.args.self.now.coding (elements_of c.args.self.now.format.width) os (has.others ++ piece)) (sym (less_fill-append 0 octets c.args.piece.now))
          (AreReadAs-more c.args.self.now.coding (elements_of c.args.self.now.format.width) less has.others piece has.read_as);
      after = IsAfter-settled has.others piece c.args.self.now some has.after;
      zeros = λ not_yet. absurd (not_none c.args.self.now.settled some not_yet);
    }

pub returns-then-end-from-clause-read : goal.returns-then-end-from-clause-read
returns-then-end-from-clause-read g c = λ octets has.
    let came = subst (HasRead octets) (sym c.self.view_is) has in
    let before = came.after in
    let less : List ℕ = less_fill 0 octets in
    let piece : List ℕ = less_fill c.self.inside.zeros c.args.piece.now in
    let not_yet : c.self.inside.settled ≡ None = none_if c.self.inside.settled (sym c.is_some.ensures ∙ c.if-is_some.false) in
    let held : c.append.new.octets.items ≡ c.self.inside.octets.items ++ piece = c.in_ok-zeros.ensures.ok in
    let more = IsReadUpTo-more c.self.inside.coding (elements_of c.self.inside.format.width) came.others piece c.self.inside.octets.items c.append.new.octets.items c.self.inside.used
    (g.S.RowStore.rows c.self.inside.rows) c.self.inside.tag c.self.invariant.0 held (before.read not_yet) in
    let none : HoldsEol (drop (8 * c.saturating_sub-from.result) (bits_of c.append.new.octets.items)) → ⊥ =
    λ holds. c.after_eols-end.ensures.none
    (subst HoldsEol (ap (λ n. drop (8 * n) (bits_of c.append.new.octets.items)) (sym c.if-end-from.true) ∙ ap (λ (o : List ℕ). drop (8 * c.after_eols-end.result) (bits_of o)) (sym c.as_slice.ensures.value)) holds) in
    let waits = piece_waits c.self.inside.coding (elements_of c.self.inside.format.width) (g.S.RowStore.rows c.self.inside.rows) c.self.inside.tag c.self.inside.octets.items piece
    c.append.new.octets.items c.self.inside.used (8 * c.saturating_sub-from.result) (sym c.is_some-then-len-le-MOST_KEPT.ensures ∙ c.if-is_some-2.true) c.self.invariant.0 held (omega (arith, c.saturating_sub-from.ensures, c.len-len.ensures)) none (before.waits not_yet) in
    let at_end : less_fill 0 (octets ++ c.args.piece.now) ≡ less ++ piece = less_fill-append 0 octets c.args.piece.now ∙ ap (λ z. less ++ less_fill z c.args.piece.now) (sym (came.zeros not_yet)) in
    let count : c.in_ok-zeros.zeros ≡ zeros_after 0 (octets ++ c.args.piece.now) =
    c.in_ok-zeros.ensures.zeros ∙ ap (λ z. zeros_after z c.args.piece.now) (came.zeros not_yet) ∙ sym (zeros_after-append 0 octets c.args.piece.now) in
    let reader : ReaderValue = record { format = c.self.inside.format; coding = c.self.inside.coding; rows = g.S.RowStore.rows c.self.inside.rows; tag = c.self.inside.tag; left = drop c.self.inside.used (bits_of c.append.new.octets.items); zeros = c.in_ok-zeros.zeros; settled = c.self.inside.settled } in
    let there : IsAfter (came.others ++ piece) reader = record {
      read = λ later. more;
      waits = λ later. waits;
      settled = λ what is. absurd (cc (not_yet, is));
    } in
    record {
      others = came.others ++ piece;
      read_as = subst (λ (os : List ℕ). AreReadAs c.self.inside.coding (elements_of c.self.inside.format.width) os (came.others ++ piece)) (sym at_end)
          (AreReadAs-more c.self.inside.coding (elements_of c.self.inside.format.width) less came.others piece came.read_as);
      after = there;
      zeros = λ later. count;
    }

pub returns-clause-read : goal.returns-clause-read
returns-clause-read g c = λ octets has.
    let came = subst (HasRead octets) (sym c.self.view_is) has in
    let before = came.after in
    let width : ℕ = elements_of c.self.inside.format.width in
    let less : List ℕ = less_fill 0 octets in
    let piece : List ℕ = less_fill c.self.inside.zeros c.args.piece.now in
    let others : List ℕ = came.others ++ piece in
    let not_yet : c.self.inside.settled ≡ None = none_if c.self.inside.settled (sym c.is_some.ensures ∙ c.if-is_some.false) in
    let held : c.append.new.octets.items ≡ c.self.inside.octets.items ++ piece = c.in_ok-zeros.ensures.ok in
    let more = IsReadUpTo-more c.self.inside.coding width came.others piece c.self.inside.octets.items c.append.new.octets.items c.self.inside.used
    (g.S.RowStore.rows c.self.inside.rows) c.self.inside.tag c.self.invariant.0 held (before.read not_yet) in
    let bits : List Bool = drop c.in-Ok.reached.place (bits_of c.append.new.octets.items) in
    let kept : List Bool = drop c.in-Ok-keep_unread.passed (bits_of c.keep_unread.new.octets.items) in
    let unread = subst (λ (o : List ℕ). IsReadUpTo c.self.inside.coding width others (g.S.RowStore.rows c.self.inside.rows) c.self.inside.tag (drop c.unread_from.result (bits_of o))) (sym c.as_slice-2.ensures.value)
    (subst (λ (o : List ℕ). IsReadUpTo c.self.inside.coding width others (g.S.RowStore.rows c.self.inside.rows) c.self.inside.tag (drop c.unread_from.result (bits_of o))) c.as_slice-3.ensures.value
    (c.unread_from.ensures.read c.self.inside.coding width others (g.S.RowStore.rows c.self.inside.rows)
    (subst (λ (o : List ℕ). IsReadUpTo c.self.inside.coding width others (g.S.RowStore.rows c.self.inside.rows) c.self.inside.tag (drop c.self.inside.used (bits_of o))) (sym c.as_slice-3.ensures.value) more))) in
    let at_end : less_fill 0 (octets ++ c.args.piece.now) ≡ less ++ piece = less_fill-append 0 octets c.args.piece.now ∙ ap (λ z. less ++ less_fill z c.args.piece.now) (sym (came.zeros not_yet)) in
    let count : c.in_ok-zeros.zeros ≡ zeros_after 0 (octets ++ c.args.piece.now) =
    c.in_ok-zeros.ensures.zeros ∙ ap (λ z. zeros_after z c.args.piece.now) (came.zeros not_yet) ∙ sym (zeros_after-append 0 octets c.args.piece.now) in
    let reader : ReaderValue = record { format = c.self.inside.format; coding = c.self.inside.coding; rows = g.S.RowStore.rows c.read_up_to.new.rows; tag = c.in-Ok.reached.tag; left = bits; zeros = c.in_ok-zeros.zeros; settled = c.in-Ok.reached.settled } in
    let there : IsAfter others reader = record {
      read = λ later. subst (λ (o : List ℕ). IsReadUpTo c.self.inside.coding width others (g.S.RowStore.rows c.read_up_to.new.rows) c.in-Ok.reached.tag (drop c.in-Ok.reached.place (bits_of o))) c.as_slice-2.ensures.value
          (c.in-Ok.ensures.read later others unread);
      waits = λ later. subst (λ (o : List ℕ). NoMoreIsWhole c.self.inside.coding width (g.S.RowStore.rows c.read_up_to.new.rows) c.in-Ok.reached.tag (drop c.in-Ok.reached.place (bits_of o))) c.as_slice-2.ensures.value
          (c.in-Ok.ensures.waits later);
      settled = λ what is. (
        ap (λ (o : List ℕ). drop c.in-Ok.reached.place (bits_of o)) (sym c.as_slice-2.ensures.value) ∙ nothing_left c.as_slice-2.result.now c.in-Ok.reached.place (c.in-Ok.ensures.all (some_if c.in-Ok.reached.settled what is)),
        λ after. c.in-Ok.ensures.settled what is others after unread,
      );
    } in
    let keeps = keeps_of others reader kept c.in-Ok.ensures.few there c.in-Ok-keep_unread.ensures.kept in
    record {
      others = keeps.others;
      read_as = subst (λ (os : List ℕ). AreReadAs c.self.inside.coding width os keeps.others) (sym at_end)
          (AreReadAs-then c.self.inside.coding width (less ++ piece) others keeps.others (AreReadAs-more c.self.inside.coding width less came.others piece came.read_as) keeps.read_as);
      after = keeps.after;
      zeros = λ later. count;
    }

pub returns-then-end-from-clause-fill : goal.returns-then-end-from-clause-fill
returns-then-end-from-clause-fill g c = λ n zeros.
    subst (λ (r : ReaderValue). length (drop c.self.inside.used (bits_of c.append.new.octets.items)) + 8 * (4 - c.in_ok-zeros.zeros) ≤ most_kept r) c.self.view_is
    (fill_kept c.self.inside.octets.items c.args.piece.now c.append.new.octets.items c.self.inside.used c.self.inside.used c.self.inside.zeros c.in_ok-zeros.zeros n
    c.in_ok-zeros.ensures.ok c.in_ok-zeros.ensures.zeros zeros (omega arith) c.self.invariant.0)

pub returns-clause-fill : goal.returns-clause-fill
returns-clause-fill g c = λ n zeros.
    let place : ℕ = c.in-Ok.reached.place in
    let less : length (drop place (bits_of c.append.new.octets.items)) + 8 * (4 - c.in_ok-zeros.zeros) ≤ most_kept c.args.self.now =
    subst (λ (r : ReaderValue). length (drop place (bits_of c.append.new.octets.items)) + 8 * (4 - c.in_ok-zeros.zeros) ≤ most_kept r) c.self.view_is
    (fill_kept c.self.inside.octets.items c.args.piece.now c.append.new.octets.items c.self.inside.used place c.self.inside.zeros c.in_ok-zeros.zeros n
    c.in_ok-zeros.ensures.ok c.in_ok-zeros.ensures.zeros zeros (omega (arith, c.unread_from.ensures.on, c.in-Ok.ensures.on)) c.self.invariant.0) in
    omega (arith, less, c.in-Ok-keep_unread.ensures.no_more)

pub returns-then-is_some-clause-kept : goal.returns-then-is_some-clause-kept
returns-then-is_some-clause-kept g c =
    subst (λ (r : ReaderValue). length r.left ≤ 8 * 8192) c.self.view_is (few_bits c.self.inside.octets.items c.self.inside.used c.self.invariant.5)

pub returns-then-end-from-clause-kept : goal.returns-then-end-from-clause-kept
returns-then-end-from-clause-kept g c = few_bits c.append.new.octets.items c.self.inside.used (omega (arith, c.append.new.octets.ok.0))

pub returns-clause-kept : goal.returns-clause-kept
returns-clause-kept g c = few_bits c.keep_unread.new.octets.items c.in-Ok-keep_unread.passed c.in-Ok-keep_unread.ensures.few
