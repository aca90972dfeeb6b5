-- The sizes are those that begin and advance ask for.
use Rattle.std.specs.Prelude.{◌≡◌, refl}
use Rattle.run.specs.Frames.{frame_size_at}
use Rattle.run.specs.Model.{cell_count, work_count, frame_count}
use Rattle.run.specs.declared.settings.Settings.{Settings}
use Rattle.capi.specs.Sizes.{state_size_of, work_size_of}

pub state_size : (s : Settings) → state_size_of s.level ≡ cell_count s
unfolding state_size_of
state_size s = refl

pub work_size : (s : Settings) → work_size_of s.level ≡ work_count s
unfolding work_size_of
work_size s = refl

pub frame_count_lem : (s : Settings) → frame_size_at s.dx_level ≡ frame_count s
unfolding frame_count
frame_count_lem s = refl
