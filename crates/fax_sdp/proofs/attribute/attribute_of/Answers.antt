use Rattle.std.proofs.Common.{◌∙◌, sym, ap}
use Rattle.std.proofs.lemmas.Str.Ascii.{trim_ascii_start_is}
use Rattle.fax_sdp.specs.Attributes.{flag_or_valued, valued}
use Rattle.fax_sdp.specs.Texts.{without_space}
use Rattle.fax_sdp.proofs.attribute.attribute_of.Goals as goal

pub returns-in-Some : goal.returns-in-Some
unfolding without_space
returns-in-Some c =
    c.valued_of.ensures ∙ ap (valued c.in-Some.name.now) (trim_ascii_start_is c.in-Some.value.now c.trim_ascii_start.result.now c.trim_ascii_start.ensures.value)
    ∙ ap (flag_or_valued c.args.text.now) (sym c.in-Some.ensures.parts)

pub returns-in-None : goal.returns-in-None
returns-in-None c = c.flag_of.ensures ∙ ap (flag_or_valued c.args.text.now) (sym c.in-None.ensures.parts)
