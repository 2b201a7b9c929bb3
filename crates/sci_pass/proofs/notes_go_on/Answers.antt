use Rattle.sci_pass.proofs.Stays.{notes_go_on}
use Rattle.sci_pass.proofs.notes_go_on.Goals as goal

pub returns : goal.returns
returns c n m i s row pre post e w vs branch mask taken here net free is split front noted takes mask_is =
    notes_go_on n m i s net free row is pre post e split w front vs branch mask taken here noted takes mask_is
