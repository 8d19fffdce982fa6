mod Told
mod Driving
mod Quiet
mod Outgoing
mod Flights
mod InFlight
mod Pipe
