use Rattle.std.proofs.Common.{◌∙◌, ℕ, List, ◌++◌, ap, codes}
use Rattle.fax_listing.specs.Telling.{damage_text}
use Rattle.fax_listing.proofs.looking.tell_harms.Goals as goal

pub returns : goal.returns
returns c =
    let folder : List ℕ = c.args.folder.now in
    c.in_ok-tell_damage-4.ensures ∙ ap (λ (l : List ℕ). l ++ damage_text folder (codes "undelivered-wal") c.args.kept.now.other)
    (c.in_ok-tell_damage-3.ensures ∙ ap (λ (l : List ℕ). l ++ damage_text folder (codes "undelivered") c.args.kept.now.one)
    (c.in_ok-tell_damage-2.ensures ∙ ap (λ (l : List ℕ). l ++ damage_text folder (codes "pages-wal") c.args.waiting.now.other)
    (c.in_ok-tell_damage.ensures ∙ ap (λ (l : List ℕ). l ++ damage_text folder (codes "pages") c.args.waiting.now.one) c.new-told.ensures.bytes)))
