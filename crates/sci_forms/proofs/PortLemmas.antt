-- The elements of the ports from a number on.
use Rattle.std.proofs.Common.{◌≡◌, ◌≤◌, ◌<◌, ℕ, ◌+◌, List, length, drop, ap}
use Rattle.std.proofs.lemmas.List.{drop_more, drop_all}
use Rattle.sci_forms.specs.declared.ports.Port.{Port}
use Rattle.sci_forms.specs.Ports.{elements, port_at, no_port, total}

-- how many elements the ports from number i on have
pub total_step : (ps : List Port) (i : ℕ) → i < length ps → total (drop i ps) ≡ elements (port_at ps i) + total (drop (i + 1) ps)
total_step ps i l = ap total (drop_more ps i no_port l)

pub total_end : (ps : List Port) (i : ℕ) → length ps ≤ i → total (drop i ps) ≡ 0
total_end ps i l = ap total (drop_all i ps l)
