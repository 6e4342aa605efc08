use Rattle.std.proofs.Common.{◌≡◌, [], refl, sym, ap, subst, rules}
use Rattle.fax_ifp.specs.Pieces.{Piece, Frame}
use Rattle.fax_ifp.specs.Shown.{piece_of}
use Rattle.fax_call.specs.Calls.{CallerCore, came}
use Rattle.fax_call.specs.Following.{Follows}
use Rattle.fax_call.specs.Watching.{Watches, telling, telling_with}
use Rattle.fax_call.proofs.Tellings.{watches_one}
use Rattle.fax_call.proofs.procedure.Procedure.hear.Goals as goal

pub returns-in-Frame-clause-heard : goal.returns-in-Frame-clause-heard
returns-in-Frame-clause-heard g c writes job core writer f =
    let is : piece_of c.args.piece.now ≡ Frame c.as_slice.result.now = search rules in
    subst (λ (p : Piece). Follows writes job (came core p c.args.now) writer c.hear_frame.new.self) (sym is) (c.hear_frame.ensures.heard writes job core writer f)

pub returns-in-Frame-clause-told : goal.returns-in-Frame-clause-told
returns-in-Frame-clause-told g c writes job core writer f =
    let is : piece_of c.args.piece.now ≡ Frame c.as_slice.result.now = search rules in
    subst (λ (p : Piece). Watches g.W.Watcher.tells c.args.watcher.now c.hear_frame.new.watcher (telling_with p (telling core p c.args.now) [])) (sym is) (c.hear_frame.ensures.told writes job core writer f)

pub returns-in-Start-clause-told : goal.returns-in-Start-clause-told
returns-in-Start-clause-told g c writes job core writer f =
    subst (λ (p : Piece). Watches g.W.Watcher.tells c.args.watcher.now c.pass_over.new.watcher (telling_with p (telling core p c.args.now) [])) (sym (ap piece_of c.in-Start.is))
    (watches_one g.W.Watcher.tells c.args.watcher.now c.pass_over.new.watcher _ _ _ _ _ _ _ _ refl refl (ap piece_of c.in-Start.is) refl (c.pass_over.ensures writes job core writer f))

pub returns-in-Octets-clause-told : goal.returns-in-Octets-clause-told
returns-in-Octets-clause-told g c writes job core writer f =
    subst (λ (p : Piece). Watches g.W.Watcher.tells c.args.watcher.now c.pass_over-in-Octets.new.watcher (telling_with p (telling core p c.args.now) [])) (sym (ap piece_of c.in-Octets.is))
    (watches_one g.W.Watcher.tells c.args.watcher.now c.pass_over-in-Octets.new.watcher _ _ _ _ _ _ _ _ refl refl (ap piece_of c.in-Octets.is) refl (c.pass_over-in-Octets.ensures writes job core writer f))

pub returns-in-End-clause-told : goal.returns-in-End-clause-told
returns-in-End-clause-told g c writes job core writer f =
    subst (λ (p : Piece). Watches g.W.Watcher.tells c.args.watcher.now c.pass_over-in-End.new.watcher (telling_with p (telling core p c.args.now) [])) (sym (ap piece_of c.in-End.is))
    (watches_one g.W.Watcher.tells c.args.watcher.now c.pass_over-in-End.new.watcher _ _ _ _ _ _ _ _ refl refl (ap piece_of c.in-End.is) refl (c.pass_over-in-End.ensures writes job core writer f))

pub returns-in-Gap-clause-told : goal.returns-in-Gap-clause-told
returns-in-Gap-clause-told g c writes job core writer f =
    subst (λ (p : Piece). Watches g.W.Watcher.tells c.args.watcher.now c.args.watcher.now (telling_with p (telling core p c.args.now) [])) (sym (ap piece_of c.in-Gap.is)) refl
