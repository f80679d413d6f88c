-- Which acts a hostile domain may have.
-- Source: this project's own.
use Rattle.std.specs.Prelude.{◌≡◌, ◌≤◌, true, List, length}
use Rattle.std.specs.List.{All}
use Rattle.scenario_file.specs.Names.{is_name, is_service}
use Rattle.scenario_file.specs.declared.acts.ActPage.{ActPage}
use Rattle.scenario_file.specs.declared.acts.ActPage.TheVariants as page
use Rattle.scenario_file.specs.declared.acts.Act.{Act}
use Rattle.scenario_file.specs.declared.acts.Act.TheVariants.{Trigger, Poke, Scribble, Rest}

-- a page names its peer as a call names its target
abbrev pub PageFits : ActPage → Type 0
PageFits page.Control = Unit {0}
PageFits (page.Payload peer port) = is_name peer ≡ true

-- the texts and numbers that an act may have
abbrev pub ActFits : Act → Type 0
ActFits (Trigger to service count) = (is_name to ≡ true) × (is_service service ≡ true) × (1 ≤ count) × (count ≤ 64)
ActFits (Poke page word value) = PageFits page
ActFits (Scribble seed count) = (seed ≤ 65535) × (1 ≤ count) × (count ≤ 65536)
ActFits (Rest turns) = (1 ≤ turns) × (turns ≤ 65536)
ActFits _ = Unit {0}

-- at most 256 acts, each of which fits
pub record AreActs (acts : List Act) : Type 0 where
  pub few : length acts ≤ 256
  pub fit : All ActFits acts
