use Rattle.std.proofs.Common.{List, ℕ, ◌++◌, ◌∙◌, ap, ap₂, Option}
use Rattle.fax_frames.specs.declared.frame.Frame.{Frame}
use Rattle.fax_frames.specs.Frames.{frame_of}
use Rattle.fax_descriptions.specs.declared.lane.Lane.{Lane}
use Rattle.fax_explain.specs.declared.listener.Listener.{Listener}
use Rattle.fax_explain.specs.declared.mark.Mark.{Mark}
use Rattle.fax_explain.specs.Listening.{first_mark, marks_left, taken_text}
use Rattle.fax_explain.proofs.OpenedLemmas.{always, frame_heard, hears_told, same_ear}
use Rattle.fax_explain.proofs.listener.Listener.hear_frame.Goals as goal

pub returns-clause-told : goal.returns-clause-told
returns-clause-told c =
    let old = c.args.self.now in
    let octets = c.args.octets.now in
    let words = c.as_str.result.now in
    let said = c.in_ok-words.ensures.dis in
    let left = c.next_mark-mark.ensures.left in
    let took = c.take.ensures in
    let lane = ap (λ (l : Listener). l.lane) said ∙ ap (λ (l : Listener). l.lane) left in
    let outside = ap (λ (l : Listener). l.is_outside) said ∙ ap (λ (l : Listener). l.is_outside) left in
    let usual = ap (λ (l : Listener). l.usual) said ∙ ap (λ (l : Listener). l.usual) left in
    always c.take.result (λ ear is_ear.
    let at = same_ear ear old c.words_of.new.self lane outside usual is_ear in
    let now = same_ear ear old c.take.new.self (ap (λ (l : Listener). l.lane) took ∙ lane) (ap (λ (l : Listener). l.is_outside) took ∙ outside) (ap (λ (l : Listener). l.usual) took ∙ usual) is_ear in
    let mark = c.next_mark-mark.ensures.mark ∙ ap (λ (usual : Mark). first_mark usual (marks_left old)) is_ear.usual in
    let taken = c.words_of_taking.ensures
    ∙ ap₂ (λ (l : Lane) (f : Option Frame). taken_text c.next_mark-mark.result l f) (lane ∙ is_ear.lane) c.read-frame.ensures
    ∙ ap (λ (m : Mark). taken_text m ear.lane (frame_of octets)) mark in
    let is = c.as_str.ensures.value ∙ c.in_ok-push_str.ensures.bytes ∙ ap₂ (λ (a b : List ℕ). a ++ b) c.in_ok-words.ensures.words taken in
    hears_told ear _ words old c.words_of.new.self c.take.new.self c.args.tale.now c.tell.new.tale at now
    (ap (λ (l : Listener). l.receiver) took ∙ ap (λ (l : Listener). l.receiver) said ∙ ap (λ (l : Listener). l.receiver) left)
    (frame_heard c.next_mark-mark.new.self.dis octets _ (frame_of octets) words is) c.in_ok-tell.ensures)
