-- OwnSize d — once problem was given, the loader's own n is in its range; so it is at every loader that `new` and `take` make.
use Rattle.std.specs.Prelude.{true, ◌≡◌, pos}
use Rattle.rules.specs.Range.{in_range}
use Rattle.rules.specs.declared.Kind.TheVariants.{Size}
use Rattle.loader_progress.specs.Progress.{sized}
use Rattle.loader.specs.declared.Loader.{Loader}

abbrev pub OwnSize : Loader → Type 0
OwnSize d = sized d.stage ≡ true → in_range Size (pos d.n) ≡ true
