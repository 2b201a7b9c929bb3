-- What a net that is ready to run is seen as.
use Rattle.sci_sim.specs.declared.ready.Ready.TheInside.{Inside}
use Rattle.sci_sim.specs.At.{Running}

abbrev pub running : Inside → Running
running r = record {
  fixed = r.kept.fixed;
  rows = r.rows.items;
  store = r.kept.store;
  wheel = r.wheel;
  offset = r.offset;
  now = r.now;
  fired = r.fired;
  row = r.row;
  has_row = r.has_row;
  started = r.started;
  halted = r.halted;
}
