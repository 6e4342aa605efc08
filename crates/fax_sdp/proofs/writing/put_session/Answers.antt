use Rattle.std.proofs.Common.{List, ℕ, ◌∷◌, [], codes, string_bytes}
use Rattle.fax_sdp.specs.Writing.{connection_line, origin_line}
use Rattle.fax_sdp.proofs.WriteLemmas.{last_line, more_lines, one_line}
use Rattle.fax_sdp.proofs.writing.put_session.Goals as goal

pub returns : goal.returns
returns c =
    let t0 : List ℕ = string_bytes c.args.text.now in
    let t1 : List ℕ = string_bytes c.put_line.new.text in
    let t2 : List ℕ = string_bytes c.put_origin.new.text in
    let t3 : List ℕ = string_bytes c.put_line-2.new.text in
    let t4 : List ℕ = string_bytes c.put_connection.new.text in
    let t5 : List ℕ = string_bytes c.put_line-3.new.text in
    let origin = c.args.origin.now in
    let l1 : List (List ℕ) = codes "v=0" ∷ [] in
    let l2 : List (List ℕ) = codes "v=0" ∷ origin_line origin ∷ [] in
    let l3 : List (List ℕ) = codes "v=0" ∷ origin_line origin ∷ codes "s=-" ∷ [] in
    let l4 : List (List ℕ) = codes "v=0" ∷ origin_line origin ∷ codes "s=-" ∷ connection_line origin.host ∷ [] in
    let e1 = one_line t0 t1 (codes "v=0") c.in_ok-put_line.ensures in
    let e2 = more_lines t0 t1 t2 l1 (origin_line origin) e1 c.in_ok-put_origin.ensures in
    let e3 = more_lines t0 t2 t3 l2 (codes "s=-") e2 c.in_ok-put_line-2.ensures in
    let e4 = more_lines t0 t3 t4 l3 (connection_line origin.host) e3 c.in_ok-put_connection.ensures in
    last_line c.put_line-3.result t0 t4 t5 l4 (codes "t=0 0") e4 c.put_line-3.ensures
