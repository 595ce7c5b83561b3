-- `Tests`: a session that is not refused. `Laws`: a report is taken where the crossing tells none of the numbers 1 to 11.
pub mod Tests
pub mod Laws
