-- The length of all histories in bytes, computed.
use mathlib.Core.Path.{◌≡◌, refl}
use lib.ListN.{length}
use Rattle.history_steps.specs.Legal.{count, may, legal_from}
use Rattle.history_growth.specs.Listing.{each_before, lists_of, lists_up_to, only_legal, histories, bytes_of}

pub length_histories : length (bytes_of histories) ≡ 2668
unfolding count may legal_from each_before lists_of lists_up_to only_legal bytes_of
length_histories = refl

-- how many histories there are
pub count_histories : length histories ≡ 481
unfolding count may legal_from each_before lists_of lists_up_to only_legal
count_histories = refl
