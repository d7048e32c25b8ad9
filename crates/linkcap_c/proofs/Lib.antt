mod AttributeBytes
mod Forms
mod Walking
mod Following
mod Apart
mod Bodies
mod Errors
mod Quirking
