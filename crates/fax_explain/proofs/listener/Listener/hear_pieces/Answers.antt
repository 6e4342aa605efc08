use Rattle.std.proofs.lemmas.List.{take_all}
use Rattle.fax_ifp.specs.declared.piece.Piece as code_pieces
use Rattle.std.proofs.Common.{List, sym, ◌∙◌, ap, subst, reverse, take, ◌++◌}
use Rattle.fax_ifp.specs.Shown.{piece_of, pieces_shown}
use Rattle.fax_explain.specs.Heard.{Hears}
use Rattle.fax_explain.specs.Listening.{first_mark, later_marks, marks_after, marks_left}
use Rattle.fax_explain.specs.Openings.{Opening, piece_openings, pieces_openings}
use Rattle.fax_explain.specs.declared.mark.Mark.{Mark}
use Rattle.fax_explain.proofs.OpenedLemmas.{hears_both, pieces_counted, pieces_marked, pieces_told}
use Rattle.fax_explain.proofs.listener.Listener.hear_pieces.Goals as goal

pub loop-piece-preserved : goal.loop-piece-preserved
loop-piece-preserved c =
    let so_far = c.loop-piece.invariant in
    let ps = c.args.pieces.now in
    let i = c.loop-piece.piece-index in
    let p = c.piece-item.result in
    let marks = marks_left c.args.self.now in
    record {
      told = λ ear is_ear before n.
          let front = reverse (pieces_shown (take i ps)) ++ before in
          let first = so_far.told ear is_ear before n in
          subst (λ (os : List Opening). Hears ear os c.args.self.now c.hear_piece.new.self c.args.tale.now c.hear_piece.new.tale) (sym (pieces_told ear marks before ps i p c.loop-piece-test.true c.piece-item.is))
          (hears_both ear (pieces_openings ear marks before (pieces_shown (take i ps))) (piece_openings ear (first_mark ear.usual (later_marks (pieces_shown (take i ps)) marks)) front (piece_of p))
          c.args.self.now c.loop-piece.self c.hear_piece.new.self c.args.tale.now c.loop-piece.tale c.hear_piece.new.tale first
          (subst (λ (ms : List Mark). Hears ear (piece_openings ear (first_mark ear.usual ms) front (piece_of p)) c.loop-piece.self c.hear_piece.new.self c.loop-piece.tale c.hear_piece.new.tale) so_far.marks
          (c.in_ok-hear_piece.ensures.told ear first.is_ear front (so_far.counted before n))));
      counted = λ before n.
          let front = reverse (pieces_shown (take i ps)) ++ before in
          c.in_ok-hear_piece.ensures.counted front (so_far.counted before n) ∙ sym (pieces_counted before ps i p c.loop-piece-test.true c.piece-item.is);
      marks = c.in_ok-hear_piece.ensures.marks ∙ ap (λ (ms : List Mark). marks_after (piece_of p) ms) so_far.marks ∙ sym (pieces_marked ps i p marks c.loop-piece-test.true c.piece-item.is);
      signals = c.in_ok-hear_piece.ensures.signals ∙ so_far.signals;
    }

pub returns-clause-told : goal.returns-clause-told
returns-clause-told c = λ ear is_ear before n.
    let now = c.loop-piece.self in
    subst (λ (ps : List code_pieces.Piece). Hears ear (pieces_openings ear (marks_left c.args.self.now) before (pieces_shown ps)) c.args.self.now now c.args.tale.now c.loop-piece.tale)
    (take_all c.loop-piece.piece-index c.args.pieces.now c.loop-piece-test.false) (c.loop-piece.invariant.told ear is_ear before n)
