use Rattle.std.proofs.Common.{rules, ◌≡◌, ◌++◌, ◌∷◌, [], reverse, take, sym, ap, ◌∙◌}
use Rattle.fax_pagestore.specs.Readers.{ReaderValue, reader_at}
use Rattle.fax_answer.specs.Images.{ImageValue}
use Rattle.fax_answer.proofs.Places.{back_to, back_none, newest, some_popped, as_before}
use Rattle.fax_answer.proofs.image.Image.back.Goals.{in-Some+in-Some-pop, in-Some+in_default-pop, in_default}
use Rattle.fax_answer.proofs.image.Image.back.Goals as goal

pub back-requires-clause-format : goal.back-requires-clause-format
back-requires-clause-format g c =
    let is = c.requires.1 in
    let popped : take c.args.mark.count c.self.inside.readers.items ≡ c.pop.new.self.items ++ c.in-Some-pop.reader ∷ [] = search rules in
    (back_to c.requires.0.readers c.args.self.now.readers c.self.inside.readers.items c.pop.new.self.items c.args.mark.count c.in-Some.under_way c.in-Some-pop.reader is.count (sym is.under_way ∙ c.in-Some.is) c.requires.2 (ap (λ (i : ImageValue). i.readers) c.self.view_is) popped).0

pub back-requires-clause-coding : goal.back-requires-clause-coding
back-requires-clause-coding g c =
    let is = c.requires.1 in
    let popped : take c.args.mark.count c.self.inside.readers.items ≡ c.pop.new.self.items ++ c.in-Some-pop.reader ∷ [] = search rules in
    (back_to c.requires.0.readers c.args.self.now.readers c.self.inside.readers.items c.pop.new.self.items c.args.mark.count c.in-Some.under_way c.in-Some-pop.reader is.count (sym is.under_way ∙ c.in-Some.is) c.requires.2 (ap (λ (i : ImageValue). i.readers) c.self.view_is) popped).1

pub back-requires-clause-rows : goal.back-requires-clause-rows
back-requires-clause-rows g c =
    let is = c.requires.1 in
    let popped : take c.args.mark.count c.self.inside.readers.items ≡ c.pop.new.self.items ++ c.in-Some-pop.reader ∷ [] = search rules in
    (back_to c.requires.0.readers c.args.self.now.readers c.self.inside.readers.items c.pop.new.self.items c.args.mark.count c.in-Some.under_way c.in-Some-pop.reader is.count (sym is.under_way ∙ c.in-Some.is) c.requires.2 (ap (λ (i : ImageValue). i.readers) c.self.view_is) popped).2

pub returns : goal.returns
returns g c old is goes =
    let readers = ap (λ (i : ImageValue). i.readers) c.self.view_is in
    let now : reverse c.match-under_way.self-inside.readers.items ≡ old.readers = elim c.match-under_way.branch [
      | in-Some+in-Some-pop w ↦
          let popped : take c.args.mark.count c.self.inside.readers.items ≡ w.pop.new.self.items ++ w.in-Some-pop.reader ∷ [] = sym c.truncate.ensures.items ∙ w.in-Some-pop.ensures.items in
          let put : w.push_reserved.new.self.items ≡ w.pop.new.self.items ++ reader_at w.in-Some.under_way w.in-Some-pop.reader.rows ∷ [] = w.push_reserved.ensures.items ∙ ap (λ (r : ReaderValue). w.pop.new.self.items ++ r ∷ []) w.back.ensures in
          ap (λ (i : _). reverse i.readers.items) w.self-inside-is ∙ ap reverse put ∙ newest w.pop.new.self.items (reader_at w.in-Some.under_way w.in-Some-pop.reader.rows)
          ∙ (back_to old.readers c.args.self.now.readers c.self.inside.readers.items w.pop.new.self.items c.args.mark.count w.in-Some.under_way w.in-Some-pop.reader is.count (sym is.under_way ∙ w.in-Some.is) goes readers popped).3
      | in-Some+in_default-pop w ↦
          let empty : take c.args.mark.count c.self.inside.readers.items ≡ [] = search rules in
          absurd (some_popped old.readers c.args.self.now.readers c.self.inside.readers.items c.args.mark.count w.in-Some.under_way is.count (sym is.under_way ∙ w.in-Some.is) goes readers empty)
      | in_default w ↦
          ap (λ (i : _). reverse i.readers.items) w.self-inside-is ∙ ap reverse c.truncate.ensures.items ∙ back_none old.readers c.self.inside.readers.items c.args.mark.count is.count (sym is.under_way ∙ w.in_default.is)
    ] in
    as_before (reverse c.match-under_way.self-inside.readers.items) c.args.mark old is now
