use Rattle.refusals.specs.declared.Refusal.{Refusal}
use Rattle.refusals.specs.Numbers.{refusal_number, refusal_second}
use Rattle.listing.specs.Listing.{Listing, refusal}

-- The listing of a refusal: both its numbers.
abbrev pub refusal_listed : Refusal → Listing
refusal_listed r = refusal (refusal_number r) (refusal_second r)
