-- The delays of the blocks that are active.
use Rattle.std.specs.Prelude.{ℤ}
use Rattle.sci_net.specs.declared.Feed.{Feed}
use Rattle.sci_run.specs.Programs.{delay_of}
use Rattle.sci_places.specs.Flat.{values_at}
use Rattle.sci_store.specs.Marks.{mark_at}
use Rattle.sci_store.specs.Frame.{Fixed}
use Rattle.sci_store.specs.Store.{Standing}

-- the delays on the values that are kept, of the blocks that are marked as active
abbrev pub delays_in : Fixed → Standing → Feed → ℤ
delays_in f s = delay_of f.net (values_at f.net s.values) (λ b. (mark_at s.marks b).active)
