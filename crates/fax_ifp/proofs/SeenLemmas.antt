-- Fields without where their octets lie.
use Rattle.std.proofs.Common.{◌≡◌, List, [], ◌∷◌, ◌++◌, refl, ap}
use Rattle.fax_ifp.specs.declared.packet.Field.{Field}
use Rattle.fax_ifp.specs.Packets.{FieldText}
use Rattle.fax_ifp.specs.Seen.{text_of, texts_of}

pub texts_of-push : (fields : List Field) (field : Field) → texts_of (fields ++ field ∷ []) ≡ texts_of fields ++ text_of field ∷ []
texts_of-push [] field = refl
texts_of-push (first ∷ fields) field = ap (λ (texts : List FieldText). text_of first ∷ texts) (texts_of-push fields field)
