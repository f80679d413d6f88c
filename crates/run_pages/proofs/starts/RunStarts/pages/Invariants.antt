use Rattle.std.proofs.Common.{◌≡◌, ◌≤◌, length, map, take, vec_len, vec_capacity}
use Rattle.run_pages.specs.Pages.{IsLaying, page_at}
use Rattle.run_pages.specs.Starts.{AreStartsOf}
use Rattle.run_pages.proofs.starts.RunStarts.pages.Given as goal

abbrev pub invariant-loop-place : goal.invariant-loop-place
invariant-loop-place l = record {
  pages : vec_len l.pages ≡ l.place-index;
  seats : vec_len l.seats ≡ l.place-index;
  pages_room : length l.places ≤ vec_capacity l.pages;
  seats_room : length l.places ≤ vec_capacity l.seats;
  made : AreStartsOf l.scenario l.self → IsLaying l.scenario (take l.place-index l.places) (map page_at l.pages.items) l.seats.items;
}
