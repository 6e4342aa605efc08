use Rattle.std.proofs.Common.{ℕ, List, [], ◌∷◌, sym, subst}
use Rattle.fax_ifp.specs.declared.piece.Piece.{Piece}
use Rattle.fax_ifp.specs.Shown.{piece_of}
use Rattle.fax_explain.specs.Heard.{Hears}
use Rattle.fax_explain.specs.Listening.{first_mark, marks_left}
use Rattle.fax_explain.specs.Openings.{end_opening, frame_opening, piece_openings}
use Rattle.fax_explain.proofs.OpenedLemmas.{ok_then}
use Rattle.fax_explain.proofs.listener.Listener.hear_piece.Goals as goal

pub returns-in-Frame-clause-told : goal.returns-in-Frame-clause-told
returns-in-Frame-clause-told c = ok_then c.hear_frame.result c.hear_frame.ensures.told (λ told ear is_ear before counted.
    let old = c.args.self.now in
    let new = c.hear_frame.new in
    let mark = first_mark ear.usual (marks_left old) in
    subst (λ (p : Piece). Hears ear (piece_openings ear mark before (piece_of p)) old new.self c.args.tale.now new.tale) (sym c.in-Frame.is)
    (subst (λ (octets : List ℕ). Hears ear (frame_opening mark ear.lane octets ∷ []) old new.self c.args.tale.now new.tale) c.as_slice.ensures.value (told ear is_ear)))

pub returns-in-Start-clause-told : goal.returns-in-Start-clause-told
returns-in-Start-clause-told c = ok_then c.begin_image.result c.begin_image.ensures.told (λ told ear is_ear before counted.
    let old = c.args.self.now in
    let new = c.begin_image.new in
    subst (λ (p : Piece). Hears ear (piece_openings ear (first_mark ear.usual (marks_left old)) before (piece_of p)) old new.self c.args.tale.now new.tale) (sym c.in-Start.is) (told ear is_ear))

pub returns-in-End-clause-told : goal.returns-in-End-clause-told
returns-in-End-clause-told c = ok_then c.end_image.result c.end_image.ensures.told (λ told ear is_ear before counted.
    let old = c.args.self.now in
    let new = c.end_image.new in
    let mark = first_mark ear.usual (marks_left old) in
    subst (λ (p : Piece). Hears ear (piece_openings ear mark before (piece_of p)) old new.self c.args.tale.now new.tale) (sym c.in-End.is)
    (subst (λ (n : ℕ). Hears ear (end_opening mark ear.lane ear.is_outside n c.in-End.whole ∷ []) old new.self c.args.tale.now new.tale) counted (told ear is_ear)))
