use Rattle.std.proofs.Common.{◌≡◌, ◌++◌, ◌∙◌, ℕ, List, ap, codes, subst}
use Rattle.fax_http.specs.Cells.{call_shown}
use Rattle.fax_http.specs.PicturePaths.{picture_path}
use Rattle.fax_http.specs.Texts.{text_shown}
use Rattle.fax_http.specs.Undelivered.{picture_part}
use Rattle.fax_http.proofs.PartLemmas.{five}
use Rattle.fax_http.proofs.undelivered.put_picture.Goals as goal

pub returns : goal.returns
unfolding picture_part
returns c =
    let view = c.args.call.now in
    let a : List ℕ = c.put.new.octets.items in
    let b : List ℕ = c.put_text.new.octets.items in
    five c.put-3.result c.args.octets.now.items (codes "<img src=\"") (text_shown (picture_path view.line.now view.life view.call.call)) (codes "\" alt=\"The first page of ") (call_shown view.call) (codes "\" loading=\"lazy\">\n")
    a b _ _ _
    c.in_ok-put.ensures
    (subst (λ (path : List ℕ). b ≡ a ++ text_shown path) (c.as_str.ensures.value ∙ c.in_ok-path.ensures ∙ ap (λ (line : List ℕ). picture_path line view.life view.call.call) c.as_bytes.ensures.value) c.in_ok-put_text.ensures)
    c.in_ok-put-2.ensures c.in_ok-put_call.ensures c.put-3.ensures
