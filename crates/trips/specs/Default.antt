-- The trip that stands for none. Assumes nothing.
use Rattle.trips.specs.declared.trip.Trip.{Trip}

-- what is read past the end of a list of trips: every value is 0
abbrev pub no_trip : Trip
no_trip = record { number = 0; start = 0; departure = 0; end = 0; arrival = 0 }
