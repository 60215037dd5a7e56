use Rattle.machine_core.proofs.steps.Sound.{sound_of}
use Rattle.machine_core.proofs.partial.Partial.is_on_its_way.Goals as goal

pub returns : goal.returns
returns g c =
    sound_of c.self.inside.builder c.self.inside.carry c.args.self.now
    c.self.view_is c.walk-walk.ensures.begun c.self.invariant
