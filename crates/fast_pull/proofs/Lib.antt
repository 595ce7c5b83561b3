-- `Awaits`: a header that is awaited at once. `Headers`: a header that a read completes, with a body that is then awaited. `Bodies`: a body
-- that a read completes.
mod Awaits
mod Headers
mod Bodies
