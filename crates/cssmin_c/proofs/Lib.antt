mod Examples
mod Made
