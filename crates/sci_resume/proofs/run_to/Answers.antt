use Rattle.sci_save.specs.Saved.{saved_of}
use Rattle.sci_resume.proofs.Reactions.{saved_there, saved_behind}
use Rattle.sci_resume.proofs.run_to.Goals as goal

pub image-requires : goal.image-requires
image-requires g c =
    let h = c.in-None.ensures.stands in
    let m = saved_there c.args.ins.now c.args.until c.args.limit c.args.reaction c.args.ready.now c.react_times.new.ready _ h c.react_times.ensures.net c.requires.net c.requires.free c.requires.columns c.requires.until c.requires.limit in
    (h.state, m.0, h.at, m.1)

pub returns-in_ok-image-in-None-clause-reached : goal.returns-in_ok-image-in-None-clause-reached
returns-in_ok-image-in-None-clause-reached g c =
    let h = c.in-None.ensures.stands in
    let same = c.react_times.ensures.net in
    let m = saved_there c.args.ins.now c.args.until c.args.limit c.args.reaction c.args.ready.now c.react_times.new.ready _ h same c.requires.net c.requires.free c.requires.columns c.requires.until c.requires.limit in
    saved_behind c.args.ins.now c.args.until c.args.limit c.args.reaction c.args.ready.now c.react_times.new.ready _ h same c.requires.net c.requires.free m.0 (saved_of c.in_ok-image-in-None.image) m.1 (c.in_ok-image-in-None.ensures.image h.state m.0 h.at m.1)
