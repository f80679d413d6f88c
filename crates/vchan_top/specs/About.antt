-- What the program says about itself, and the words that ask for it.
use Rattle.std.specs.Prelude.{ℕ, List, [], ◌∷◌, Option, Some, None, codes, bytes_eq, if◌then◌else◌}
use Rattle.vchan_io.specs.Counts.{Rose}
use Rattle.vchan_io.specs.Streams.{Appends, AppendsProperPrefix}
use Rattle.vchan_top.specs.declared.about.About.{About}
use Rattle.vchan_top.specs.declared.about.About.TheVariants.{Help, Version}
use Rattle.vchan_top.specs.declared.status.Status.{Status}
use Rattle.vchan_top.specs.declared.status.Status.TheVariants.{Done, WriteFault}

-- what these words ask the program to say about itself: `--help`, alone; `--version`, alone
abbrev pub about_of : List (List ℕ) → Option About
about_of (word ∷ []) =
    if bytes_eq word (codes "--help") then Some Help
    else if bytes_eq word (codes "--version") then Some Version
    else None
about_of _ = None

-- what a status means for a text that was to be written, by the bytes that the sink held before and holds after, and by its counts of
-- faults before and after
abbrev pub Tells : Status → List ℕ → Option (List ℕ) → Option (List ℕ) → ℕ → ℕ → Type 0
Tells Done text held held' writes writes' = Appends held held' text
Tells WriteFault text held held' writes writes' = Rose writes writes' × AppendsProperPrefix held held' text
Tells _ text held held' writes writes' = ⊥
