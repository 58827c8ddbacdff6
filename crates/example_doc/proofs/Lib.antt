mod Choices
mod Heights
mod Shown
mod Table
mod Written
