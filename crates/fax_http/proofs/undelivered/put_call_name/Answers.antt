use Rattle.std.proofs.Common.{◌≡◌, ◌++◌, ℕ, List, OnOk, codes, decimal, subst}
use Rattle.fax_http.specs.Texts.{text_shown}
use Rattle.fax_http.specs.Undelivered.{name_part}
use Rattle.fax_http.proofs.PartLemmas.{five}
use Rattle.fax_http.proofs.undelivered.put_call_name.Goals as goal

pub returns : goal.returns
unfolding name_part
returns c =
    let view = c.args.call.now in
    five c.put_number-2.result c.args.octets.now.items (text_shown view.line.now) (codes " ") (decimal view.life) (codes " ") (decimal view.call.call)
    _ _ _ _ _
    c.in_ok-put_text.ensures c.in_ok-put.ensures c.in_ok-put_number.ensures c.in_ok-put-2.ensures
    (subst (λ (n : ℕ). OnOk c.put_number-2.result (c.put_number-2.new.octets.items ≡ c.put-2.new.octets.items ++ decimal n)) c.from.ensures c.put_number-2.ensures)
