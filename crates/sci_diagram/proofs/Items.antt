-- The items that are left of a list.
use Rattle.std.proofs.Common.{◌≡◌, Some, None, refl}
use Rattle.serde_json.specs.Data.{Data, Items, no_items, item}
use Rattle.sci_json.specs.View.{NextItem}

pub taken : (ds : Items) (d : Data) (es : Items) → NextItem ds (Some d) es → ds ≡ item d es
taken no_items d es h = let e = h.0 in cc
taken (item a left) d es h = let e = h.0 in let f = h.1 in cc

pub none_left : (ds es : Items) → NextItem ds None es → ds ≡ no_items
none_left no_items es h = refl
none_left (item a left) es h = let e = h.0 in cc
