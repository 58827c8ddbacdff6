mod Apart
mod Star
mod Known
