mod PlannedBodies
mod Told
