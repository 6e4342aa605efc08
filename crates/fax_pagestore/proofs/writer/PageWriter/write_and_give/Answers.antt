use Rattle.std.proofs.Common.{◌≡◌, ◌⊎◌, ◌*◌, ◌≤◌, ◌++◌, List, ℕ, Bool, length, drop, sym, ◌∙◌, ap, subst}
use Rattle.fax_pagestore.specs.declared.writer.Place.TheVariants.{End}
use Rattle.fax_pagestore.specs.Writers.{WriterValue, WritesOn, HasLeft}
use Rattle.fax_pagestore.proofs.WriterLemmas.{gives, Gives, some_wait, within_more, put_after, as_before}
use Rattle.fax_pagestore.proofs.writer.PageWriter.write_and_give.Goals as goal
use Rattle.fax_pagestore.proofs.writer.PageWriter.write_and_give.Given.{Over}
use Rattle.fax_pagestore.proofs.writer.PageWriter.write_and_give.Goals.{In_default, In-Ok, In-Ok-front}

-- what is given, and what is left
made : (g : Over) (c : In-Ok-front g) (octets : List ℕ) → HasLeft c.args.page.now octets c.args.self.now
    → Gives c.args.page.now octets (record { format = c.self.inside.format; coding = c.self.inside.coding; least = c.self.inside.least_bits; place = c.self.inside.place; waiting = c.self.inside.waiting }) c.in-Ok.place c.of-waiting.result c.args.n
made g c octets has =
    let w : WriterValue = record { format = c.self.inside.format; coding = c.self.inside.coding; least = c.self.inside.least_bits; place = c.self.inside.place; waiting = c.self.inside.waiting } in
    let start : c.into_writer-writer.result ≡ w.waiting = c.into_writer-writer.ensures ∙ c.take.ensures.taken in
    let on = subst (λ (b : List Bool). WritesOn w.coding w.least c.args.page.now w.place c.in-Ok.place b c.of-waiting.result) start
    (subst (λ (b : List Bool). WritesOn w.coding w.least c.args.page.now w.place c.in-Ok.place c.into_writer-writer.result b) (sym c.of-waiting.ensures) c.in-Ok.ensures.on) in
    gives c.args.page.now octets w c.in-Ok.place c.of-waiting.result c.args.n (subst (HasLeft c.args.page.now octets) (sym c.self.view_is) has) on
    (subst (λ (b : List Bool). (8 * c.args.n ≤ length b) ⊎ (c.in-Ok.place ≡ End)) (sym c.of-waiting.ensures) c.in-Ok.ensures.enough)

pub returns-clause-given : goal.returns-clause-given
returns-clause-given g c = λ octets has.
    let is = made g (goal.at.returns-clause-given g c).In-Ok-front octets has in
    c.in-Ok-front.ensures.front octets is.more has.are_octets is.padded is.enough

pub returns-clause-left : goal.returns-clause-left
returns-clause-left g c = λ octets has.
    let is = made g (goal.at.returns-clause-left g c).In-Ok-front octets has in
    let w : WriterValue = record { format = c.self.inside.format; coding = c.self.inside.coding; least = c.self.inside.least_bits; place = c.in-Ok.place; waiting = c.self.inside.waiting } in
    subst (λ (b : List Bool). HasLeft c.args.page.now (drop c.args.n octets) record w { waiting = b }) (sym c.pass.ensures) is.next

pub returns-clause-some : goal.returns-clause-some
returns-clause-some g c = λ wanted more.
    let writer : List Bool = c.write_up_to-written.new.writer in
    let old : c.into_writer-writer.result ≡ c.args.self.now.waiting = c.into_writer-writer.ensures ∙ c.take.ensures.taken ∙ ap (λ (w : WriterValue). w.waiting) c.self.view_is in
    let wait = some_wait c.args.n c.in-Ok.place writer wanted c.in-Ok.ensures.enough
    (c.in-Ok.ensures.more (λ end none. more (sym (ap (λ (w : WriterValue). w.place) c.self.view_is) ∙ end) (sym old ∙ none))) in
    c.in-Ok-front.ensures.some wanted (λ none. wait (sym c.of-waiting.ensures ∙ none))

-- ---- want of memory

-- where the text cannot be written
put : (g : Over) (c : In_default g) → (bits : List Bool) × (c.of-waiting.result ≡ c.self.inside.waiting ++ bits)
put g c =
    put_after c.self.inside.waiting c.into_writer-writer.result c.write_up_to-written.new.writer c.of-waiting.result
    (c.into_writer-writer.ensures ∙ c.take.ensures.taken) c.of-waiting.ensures c.in_default.ensures.err

pub keep-requires : goal.keep-requires
keep-requires g c = within_more c.bits-bits.result c.self.inside.waiting c.of-waiting.result c.bits-bits.ensures (put g (goal.at.keep-requires g c).In_default)

pub returns-in_default-clause-err : goal.returns-in_default-clause-err
returns-in_default-clause-err g c =
    let w : WriterValue = record { format = c.self.inside.format; coding = c.self.inside.coding; least = c.self.inside.least_bits; place = c.self.inside.place; waiting = c.self.inside.waiting } in
    c.keep.ensures ∙ as_before w c.bits-bits.result c.of-waiting.result c.bits-bits.ensures (put g (goal.at.returns-in_default-clause-err g c).In_default) ∙ c.self.view_is

-- where what is given cannot be copied
put_all : (g : Over) (c : In-Ok g) → (bits : List Bool) × (c.of-waiting.result ≡ c.self.inside.waiting ++ bits)
put_all g c =
    put_after c.self.inside.waiting c.into_writer-writer.result c.write_up_to-written.new.writer c.of-waiting.result
    (c.into_writer-writer.ensures ∙ c.take.ensures.taken) c.of-waiting.ensures (c.in-Ok.ensures.on.bits, c.in-Ok.ensures.on.put)

pub keep-requires-in_default-front : goal.keep-requires-in_default-front
keep-requires-in_default-front g c = within_more c.bits-bits.result c.self.inside.waiting c.of-waiting.result c.bits-bits.ensures (put_all g (goal.at.keep-requires-in_default-front g c).In-Ok)

pub returns-in_default-front-clause-err : goal.returns-in_default-front-clause-err
returns-in_default-front-clause-err g c =
    let w : WriterValue = record { format = c.self.inside.format; coding = c.self.inside.coding; least = c.self.inside.least_bits; place = c.self.inside.place; waiting = c.self.inside.waiting } in
    c.keep-in_default-front.ensures ∙ as_before w c.bits-bits.result c.of-waiting.result c.bits-bits.ensures (put_all g (goal.at.returns-in_default-front-clause-err g c).In-Ok) ∙ c.self.view_is
