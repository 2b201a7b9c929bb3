use Rattle.sci_loop.proofs.Naming.{listed_loop, listed_least}
use Rattle.sci_loop.proofs.listing.listed.Goals as goal

pub returns-clause-found : goal.returns-clause-found
returns-clause-found c =
    listed_loop c.args.table.now c.args.places.now c.in_ok-found.found.items c.reverse.new.self.items c.rotate_left.new.self.items c.deref.result.now c.least_at-first.result c.requires.table
    c.requires.within c.requires.round c.deref.ensures.value c.in_ok-found.ensures c.reverse.ensures.items c.rotate_left.ensures.items

pub returns-clause-least : goal.returns-clause-least
returns-clause-least c =
    listed_least c.reverse.new.self.items c.deref-2.result.now c.rotate_left.new.self.items c.least_at-first.result c.deref-2.ensures.value c.least_at-first.ensures.within c.least_at-first.ensures.least
    c.rotate_left.ensures.items
