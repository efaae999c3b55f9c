mod Heard
mod Flights
