-- What is kept for the two ends, each by its role.
use Rattle.std.specs.Borrow.{Lends, MutBor, Fml}
use Rattle.ring_words.specs.declared.page.Role.{Role}
use Rattle.ring_words.specs.declared.page.Role.TheVariants.{Server, Client}
use Rattle.step_script.specs.declared.player.end_player.EndPlayer.{EndPlayer}
use Rattle.step_script.specs.declared.player.end_players.EndPlayers.{EndPlayers}
use Rattle.step_script.specs.contracts.player.end_player.EndPlayer.{the_row as player_row}
use Rattle.step_script.specs.contracts.player.end_players.EndPlayers.{the_row as players_row}

abbrev pub player_of : EndPlayers → Role → EndPlayer
player_of ends Server = ends.server
player_of ends Client = ends.client

-- both, one of them in place of the one that was
abbrev pub with_player : EndPlayers → Role → EndPlayer → EndPlayers
with_player ends Server e = record ends { server = e }
with_player ends Client e = record ends { client = e }

-- both end up with the last value of the one that is lent
abbrev pub LendsPlayer : MutBor EndPlayers → Role → MutBor EndPlayer → Fml
LendsPlayer s who r = Lends players_row player_row s r (with_player s.now who)
