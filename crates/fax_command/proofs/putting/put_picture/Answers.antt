use Rattle.std.proofs.Common.{◌≡◌, ℕ, List, [], ◌∷◌, ◌++◌, length, codes, decimal, refl, sym, ◌∙◌, ap, ap₂, subst, append_assoc}
use Rattle.fax_runcodes.specs.Rows.{Elements}
use Rattle.fax_runcodes.specs.Widths.{elements_of}
use Rattle.fax_command.specs.Pictures.{AreRowsOctets, picture_head}
use Rattle.fax_command.proofs.PutLemmas.{Puts-then, Puts-same, OnOk-then}
use Rattle.fax_command.proofs.putting.put_picture.Goals as goal

-- the head and what is after it, part by part
parts_of : (name width rows octets : List ℕ)
    → (name ++ (width ++ (32 ∷ (rows ++ 10 ∷ [])))) ++ octets ≡ ((name ++ (width ++ 32 ∷ [])) ++ (rows ++ 10 ∷ [])) ++ octets
parts_of name width rows octets =
    ap (λ (head : List ℕ). head ++ octets)
    (ap (λ (text : List ℕ). name ++ text) (sym (append_assoc width (32 ∷ []) (rows ++ 10 ∷ [])))
    ∙ sym (append_assoc name (width ++ 32 ∷ []) (rows ++ 10 ∷ [])))

pub returns-clause-text : goal.returns-clause-text
returns-clause-text g c =
    let page = c.args.page.now in
    let width : c.from.result ≡ elements_of page.format.width = c.from.ensures ∙ c.elements-width.ensures ∙ ap (λ f. elements_of f.width) c.format.ensures in
    let many : c.len.result ≡ length page.rows = c.len.ensures ∙ ap length c.rows-rows.ensures.same in
    let name = Puts-then _ _ _ _ _ _ _ _ c.in_ok-put.ensures.text c.in_ok-put_number.ensures.text in
    let head = Puts-then _ _ _ _ _ _ _ _ name c.in_ok-put_number-2.ensures.text in
    OnOk-then c.put_pixels.result c.put_pixels.ensures.text (λ p. (
      picture_head (elements_of page.format.width) (length page.rows) ++ p.0,
      record {
        octets = p.0;
        of_rows = subst (λ (rows : List Elements). AreRowsOctets p.0 rows) c.rows-rows.ensures.same p.1;
        are_octets = p.2;
        text_is = refl;
      },
      Puts-same _ _ _ _ _ _ (Puts-then _ _ _ _ _ _ _ _ head p.3)
          (ap₂ (λ (w n : ℕ). picture_head w n ++ p.0) (sym width) (sym many) ∙ parts_of (codes "P4\n") (decimal c.from.result) (decimal c.len.result) p.0),
    ))
