-- `Asks`: a stat whose message is out awaits its header.
mod Asks
